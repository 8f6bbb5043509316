pub mod Escaping
pub mod Loops
pub mod ScopeKinds
