pub mod Answers
pub mod Errors
pub mod Fields
pub mod Failures
pub mod Finals
pub mod Texts
pub mod TypeTexts
