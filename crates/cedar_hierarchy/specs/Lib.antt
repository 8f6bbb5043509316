pub mod Texts
pub mod Paths
pub mod Ancestry
pub mod Walks
pub mod Listed
pub mod LeftOut
pub mod Sorting
