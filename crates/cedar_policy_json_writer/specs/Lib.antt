pub mod Objects
pub mod Names
pub mod Expressions
pub mod Scopes
pub mod Views
pub mod Policies
pub mod Links
pub mod PolicySets
