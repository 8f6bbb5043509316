pub mod Escapes
pub mod Names
pub mod Levels
pub mod Methods
pub mod Texts
pub mod Kinds
pub mod Scopes
pub mod Policies
