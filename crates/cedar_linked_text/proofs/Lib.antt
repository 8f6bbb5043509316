pub mod ListTexts
pub mod Linked
pub mod Added
