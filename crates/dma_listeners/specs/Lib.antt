pub mod Backings
pub mod Slates
pub mod Drafts
pub mod DmaMaps
pub mod Listening
pub mod Registries
