pub mod Making
pub mod Filling
pub mod FileTexts
