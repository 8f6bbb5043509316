pub mod Names
pub mod Texts
pub mod Lines
pub mod Explanations
