pub mod Formatted
pub mod Fronts
pub mod Layout
pub mod Pieces
pub mod Roles
