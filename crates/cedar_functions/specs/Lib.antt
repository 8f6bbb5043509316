pub mod Distance
pub mod Functions
