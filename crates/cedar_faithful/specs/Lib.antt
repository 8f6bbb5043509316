pub mod Held
pub mod Owed
