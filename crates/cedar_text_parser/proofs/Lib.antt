pub mod Again
pub mod Growing
pub mod Heights
pub mod Kept
pub mod Known
pub mod Places
pub mod TermCalls
mod PolicyHeights
mod Read
mod PolicyTermCalls
