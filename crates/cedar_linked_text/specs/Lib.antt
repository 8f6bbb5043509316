pub mod LinkedTexts
