pub mod Listed
pub mod Parts
pub mod Rows
pub mod Told
pub mod Six
