pub mod Tries
pub mod Trying
pub mod ResizeInside
pub mod UnderWay
