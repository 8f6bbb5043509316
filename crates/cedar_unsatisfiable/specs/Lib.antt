pub mod Alike
pub mod Claims
pub mod Erring
pub mod Kinds
pub mod Late
pub mod Showing
pub mod Views
