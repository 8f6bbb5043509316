pub mod Ids
pub mod Stored
