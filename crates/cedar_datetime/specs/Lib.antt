pub mod Calendar
pub mod Datetime
pub mod Digits
pub mod Duration
pub mod Keys
pub mod Operations
pub mod Summing
