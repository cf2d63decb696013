pub mod Ends
pub mod Steps
pub mod EachListener
pub mod Whole
pub mod Bytes
pub mod Joins
pub mod MappedAfter
