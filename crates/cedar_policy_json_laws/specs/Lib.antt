pub mod Back
pub mod Policies
pub mod Samples
pub mod PolicySets
pub mod Conditions
