pub mod Setting
pub mod Answers
pub mod Meanings
pub mod Needs
pub mod Instances
pub mod Chains
pub mod StoredChains
pub mod Tables
