pub mod Questions
pub mod Reasons
