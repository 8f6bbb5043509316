pub mod Naming
pub mod Keeping
pub mod Sharing
pub mod Backs
pub mod PlacedTerms
pub mod Unlinked
