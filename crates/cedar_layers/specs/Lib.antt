pub mod Policies
pub mod Kinds
pub mod Scopes
pub mod PolicySets
pub mod Parts
pub mod Stores
pub mod Mapped
