pub mod Noted
pub mod Texts
