pub mod Building
pub mod Lists
pub mod Patterns
pub mod Saying
