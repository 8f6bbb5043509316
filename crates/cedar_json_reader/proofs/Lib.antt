pub mod Views
mod Members
pub mod Refused
pub mod Reading
pub mod Longs
pub mod Smaller
pub mod Stored
pub mod TextLemmas
pub mod ContextLemmas
pub mod EntityLemmas
pub mod Among
pub mod Answered
pub mod SeenEntities
pub mod RequestLemmas
pub mod Failed
pub mod UnknownLemmas
