pub mod PolicySets
