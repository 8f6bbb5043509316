pub mod Bounds
pub mod Decimals
pub mod Grammar
pub mod Keys
