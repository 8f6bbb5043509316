pub mod Answered
pub mod Compared
