pub mod Standings
pub mod Walks
pub mod Worlds
pub mod Whole
pub mod Answered
pub mod Supposed
pub mod Taken
pub mod Listed
