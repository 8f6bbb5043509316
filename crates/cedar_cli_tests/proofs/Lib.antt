pub mod Following
pub mod Judging
