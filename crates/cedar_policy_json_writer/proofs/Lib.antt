pub mod Parts
pub mod Lists
