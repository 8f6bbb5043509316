pub mod Refusals
pub mod Relays
pub mod Resumptions
pub mod Stages
pub mod Wires
