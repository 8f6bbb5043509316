pub mod Answered
pub mod Bounds
pub mod Capping
pub mod Given
pub mod Smaller
