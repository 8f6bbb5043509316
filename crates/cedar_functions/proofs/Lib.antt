pub mod Distances
pub mod Names
pub mod Nearest
