pub mod Evacuated
pub mod Requests
pub mod FoundWords
pub mod Truth
pub mod Commands
pub mod PlainCommands
pub mod Examples
pub mod TruthExamples
