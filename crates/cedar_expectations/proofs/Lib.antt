pub mod Listing
pub mod Comparing
pub mod Texts
pub mod Calls
