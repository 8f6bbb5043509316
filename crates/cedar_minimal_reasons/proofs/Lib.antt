pub mod Responding
pub mod Leaving
