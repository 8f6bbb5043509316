pub mod Views
pub mod Members
pub mod Refused
pub mod Lists
pub mod TextLemmas
