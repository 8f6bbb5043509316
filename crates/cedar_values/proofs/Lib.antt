pub mod Order
pub mod SetOrder
pub mod SetMembers
pub mod SetSizes
pub mod Written
pub mod Loops
