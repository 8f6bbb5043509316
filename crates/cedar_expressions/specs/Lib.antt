pub mod View
pub mod Nodes
pub mod Errors
pub mod Records
pub mod Mappings
pub mod Readers
