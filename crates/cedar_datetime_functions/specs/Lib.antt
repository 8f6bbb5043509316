pub mod Amounts
pub mod Constructors
pub mod Counted
pub mod Laws
pub mod Names
pub mod Numbers
pub mod Operations
