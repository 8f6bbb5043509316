pub mod Meaning
pub mod Said
pub mod Telling
pub mod Types
