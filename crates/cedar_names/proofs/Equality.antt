-- Tests one behind the other.
pub use Rattle.cedar_names.specs.EqualityLaws.{then_eq}
