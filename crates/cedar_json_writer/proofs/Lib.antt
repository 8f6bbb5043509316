pub mod Trees
pub mod Written
pub mod ReadBack
pub mod Ordered
pub mod Listed
pub mod Named
pub mod Carried
