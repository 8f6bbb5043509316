mod Calling
mod Computed
pub mod Literals
mod Offsets
