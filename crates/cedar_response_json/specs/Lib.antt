pub mod Errors
pub mod Extensions
pub mod Responses
