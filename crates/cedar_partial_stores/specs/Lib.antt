pub mod PartialStores
