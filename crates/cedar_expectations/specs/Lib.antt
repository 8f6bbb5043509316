pub mod Answers
pub mod Named
pub mod Lists
pub mod Differences
pub mod Compared
