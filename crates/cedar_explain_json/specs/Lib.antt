pub mod Operands
pub mod Words
pub mod Documents
pub mod Explanations
