pub mod Composed
pub mod Keeping
pub mod Paging
pub mod Walking
pub mod Asked
pub mod Responding
pub mod Meant
