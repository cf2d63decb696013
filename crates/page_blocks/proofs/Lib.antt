pub mod Frames
pub mod BlockMarks
