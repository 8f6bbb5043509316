-- What is left of policies, made simpler, and as conditions on rows; and what whole responses tell of rows.
pub use Rattle.cedar_filter.specs.Simplifying
pub use Rattle.cedar_filter.specs.Conditions
pub use Rattle.cedar_filter.specs.Faults
pub use Rattle.cedar_filter.specs.Rows
pub use Rattle.cedar_filter.specs.Truths
pub use Rattle.cedar_filter.specs.Filters
pub use Rattle.cedar_filter.specs.Worlds
pub use Rattle.cedar_plan.specs.Planned
pub use Rattle.cedar_plan.specs.Entries
pub use Rattle.cedar_plan.specs.Told
pub use Rattle.cedar_plan.specs.Worlds as PlanWorlds
