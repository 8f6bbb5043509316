pub mod Determined
pub mod Kept
pub mod Lexed
pub mod Progress
pub mod Splits
