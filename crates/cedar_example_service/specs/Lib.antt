pub mod Stages
pub mod Stored
