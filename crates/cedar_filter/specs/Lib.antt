pub mod Conditions
pub mod Faults
pub mod Filters
pub mod Rows
pub mod Simplifying
pub mod Truths
pub mod Worlds
