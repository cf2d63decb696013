pub mod CommandWords
pub mod Statuses
pub mod Inputs
pub mod States
