pub mod Adding
pub mod Counting
pub mod Deciding
pub mod Telling
pub mod Truths
pub mod Typing
