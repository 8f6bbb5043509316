pub mod Escapes
pub mod Loops
pub mod Injective
pub mod Equality
pub mod Derived
pub mod Hashing
pub mod Matching
pub mod Among
