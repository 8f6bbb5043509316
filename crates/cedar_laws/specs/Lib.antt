pub mod AlikeRuns
pub mod EqualRuns
pub mod EqualSteps
pub mod LevelRuns
pub mod StepChains
pub mod Faithful
pub mod FaithfulInstances
pub mod Index
