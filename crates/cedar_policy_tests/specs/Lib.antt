pub mod Texts
pub mod Said
pub mod Written
pub mod Views
pub mod Failures
pub mod Faults
