pub mod Tries
pub mod Next
pub mod Steps
pub mod Ends
pub mod Inside
