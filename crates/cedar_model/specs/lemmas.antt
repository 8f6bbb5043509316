pub mod Keys
pub mod Sets
pub mod Codes
pub mod Layers
pub mod Longs
