pub mod Erring
pub mod Growing
pub mod Listed
pub mod Making
pub mod Members
pub mod Nested
pub mod Ordered
pub mod Parts
pub mod Turns
mod Counting
mod Joining
mod PolicyTurns
pub mod Within
