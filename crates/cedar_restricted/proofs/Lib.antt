pub mod Levels
pub mod MadeParts
pub mod FirstParts
pub mod Maps
pub mod Collected
pub mod Unread
pub mod Promises
