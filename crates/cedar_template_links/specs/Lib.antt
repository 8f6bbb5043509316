pub mod Links
pub mod Linking
pub mod LinkFiles
