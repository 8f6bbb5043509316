pub mod Compared
pub mod Comparisons
pub mod Decimals
pub mod Laws
