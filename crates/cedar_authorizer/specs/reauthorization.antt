-- What a response is taken further with, and why it is not.
pub mod Errors
pub mod Concretizations
pub mod Policies
