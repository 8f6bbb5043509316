pub mod GrowingStores
