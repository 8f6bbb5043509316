pub mod Keys
pub mod Paths
pub mod Listing
pub mod Lookalikes
pub mod Knowing
pub mod Mentions
pub mod Absent
