pub mod Kept
pub mod Questions
pub mod Found
pub mod Pages
