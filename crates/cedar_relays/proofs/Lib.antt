pub mod Errors
pub mod Policies
pub mod Traveling
