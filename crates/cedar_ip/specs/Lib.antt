pub mod Addresses
pub mod Bounds
pub mod Grammar
pub mod Keys
pub mod Ranges
pub mod Texts
