pub mod Passing
pub mod Walking
pub mod Marking
pub mod Listing
pub mod Knowing
pub mod Closures
pub mod Growing
pub mod Sorted
