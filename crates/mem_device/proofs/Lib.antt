pub mod Hands
pub mod Ranges
pub mod Answers
pub mod Journals
pub mod HandParts
pub mod Busy
