pub mod Saved
pub mod Unresumed
