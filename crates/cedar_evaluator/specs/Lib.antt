pub mod Decisions
pub mod Variables
pub mod Evaluations
pub mod Direct
