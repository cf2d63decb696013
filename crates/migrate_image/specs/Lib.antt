pub mod Fields
pub mod Images
pub mod Reading
pub mod Headers
