pub mod Each
pub mod Calls
pub mod Reaching
pub mod Answering
pub mod Ordered
