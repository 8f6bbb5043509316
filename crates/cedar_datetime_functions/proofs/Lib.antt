mod Outcomes
mod Writing
