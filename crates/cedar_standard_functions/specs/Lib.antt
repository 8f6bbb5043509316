pub mod AnswerLaws
pub mod Kinds
pub mod Laws
pub mod Standard
pub mod StandardLaws
