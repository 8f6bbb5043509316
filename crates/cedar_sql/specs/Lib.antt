pub mod Columns
pub mod Filled
pub mod Meaning
pub mod Patterns
pub mod Said
pub mod Sides
pub mod Terms
pub mod Texts
