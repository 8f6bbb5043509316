pub mod Trees
pub mod Written
pub mod ReadBack
pub mod Texts
pub mod Errors
pub mod Responses
pub mod Reading
