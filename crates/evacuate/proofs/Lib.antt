pub mod Starts
pub mod Frames
pub mod Rounds
pub mod Kept
pub mod Steps
pub mod Ends
