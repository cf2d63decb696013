pub mod Fields
pub mod Limits
pub mod Loops
pub mod Images
pub mod Whole
