pub mod Outcomes
pub mod Places
pub mod Explained
pub mod Views
pub mod Reached
pub mod Requests
pub mod Assuming
pub mod Lacking
