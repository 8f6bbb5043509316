-- What builders of expressions and policies stand for.
pub use Rattle.cedar_builder.specs.Building
pub use Rattle.cedar_builder.specs.Patterns
pub use Rattle.cedar_builder.specs.Saying
