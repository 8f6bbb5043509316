pub mod Capped
pub mod Heights
pub mod Limits
