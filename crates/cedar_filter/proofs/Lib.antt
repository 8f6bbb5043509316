pub mod Faultless
pub mod Found
pub mod Same
pub mod Saying
pub mod Standing
pub mod Telling
