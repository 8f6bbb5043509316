-- What follows of the definitions, for proofs of callers.
pub use Rattle.cedar_model.specs.lemmas.Keys
pub use Rattle.cedar_model.specs.lemmas.Sets
pub use Rattle.cedar_layers.proofs.Slots
pub use Rattle.cedar_builder.proofs.Building
pub use Rattle.cedar_builder.proofs.Saying
