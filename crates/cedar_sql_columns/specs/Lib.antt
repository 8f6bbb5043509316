pub mod Paths
pub mod Refusals
pub mod Shapes
pub mod Said
pub mod Tables
pub mod JsonTexts
pub mod ErrorTexts
