pub mod Tested
pub mod Texts
pub mod Results
