pub mod Drains
pub mod Drained
