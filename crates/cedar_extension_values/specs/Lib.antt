pub mod Answered
pub mod Arguments
pub mod Faithful
pub mod FunctionLaws
pub mod Functions
pub mod Written
