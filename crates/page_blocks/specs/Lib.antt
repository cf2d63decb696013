pub mod Marks
pub mod BlocksInside
