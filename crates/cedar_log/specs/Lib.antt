pub mod Lines
pub mod Exchanges
pub mod Logs
pub mod Reading
