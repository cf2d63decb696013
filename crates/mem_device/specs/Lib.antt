pub mod HandState
pub mod HandInside
pub mod Answering
pub mod Managed
pub mod DeviceView
pub mod DeviceInside
