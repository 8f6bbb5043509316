mod Amounts
pub mod Days
pub mod InOrder
pub mod Reading
