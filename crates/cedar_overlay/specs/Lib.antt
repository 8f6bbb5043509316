pub mod Overlaid
pub mod Putting
pub mod Recorded
pub mod Bases
pub mod Added
pub mod Adding
pub mod Texts
