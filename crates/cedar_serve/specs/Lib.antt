pub mod Visible
pub mod Metadata
pub mod Connections
pub mod Logged
pub mod Options
