pub mod Planned
pub mod Entries
pub mod Told
pub mod Worlds
