pub mod Narrowed
pub mod Tallied
pub mod Walked
pub mod Answering
pub mod Known
pub mod Undecided
pub mod Entered
pub mod Requested
