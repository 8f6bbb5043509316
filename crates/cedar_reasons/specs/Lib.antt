pub mod Facts
pub mod Held
pub mod Kept
pub mod Names
pub mod Reduced
