pub mod Numbers
pub mod Places
pub mod Requests
pub mod Responses
pub mod Configs
