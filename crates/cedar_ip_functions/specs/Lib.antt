pub mod Asked
pub mod Laws
pub mod Questions
pub mod Ranges
