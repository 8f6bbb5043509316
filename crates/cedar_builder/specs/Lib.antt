pub mod Fields
pub mod PolicyFields
pub mod Building
pub mod Patterns
pub mod Saying
