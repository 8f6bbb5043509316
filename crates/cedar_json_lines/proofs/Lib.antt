pub mod Joining
pub mod Cutting
