pub mod Requests
pub mod Sound
pub mod Knowing
pub mod Direct
pub mod Joined
