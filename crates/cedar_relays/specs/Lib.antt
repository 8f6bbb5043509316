pub mod Travels
