pub mod Refused
pub mod Sheeted
pub mod Contexted
pub mod Holding
pub mod Lists
pub mod TextLemmas
