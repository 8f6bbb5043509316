-- The definitions that contracts cite.
pub use Rattle.cedar_model.specs.Terms
pub use Rattle.cedar_model.specs.Values
pub use Rattle.cedar_model.specs.Keys
pub use Rattle.cedar_model.specs.Sets
pub use Rattle.cedar_model.specs.laws.Values as ValueLaws
pub use Rattle.cedar_model.specs.laws.Kinds as KindLaws
pub use Rattle.cedar_model.specs.Shapes
pub use Rattle.cedar_model.specs.Outcomes
pub use Rattle.cedar_model.specs.World
pub use Rattle.cedar_model.specs.Meaning
pub use Rattle.cedar_model.specs.Failures
pub use Rattle.cedar_model.specs.Settings
pub use Rattle.cedar_model.specs.Printing
pub use Rattle.cedar_model.specs.Operators
pub use Rattle.cedar_model.specs.Rules
pub use Rattle.cedar_model.specs.Agreement
pub use Rattle.cedar_model.specs.Policies
pub use Rattle.cedar_model.specs.Alike
pub use Rattle.cedar_model.specs.laws.Levels as LevelLaws
pub use Rattle.cedar_model.specs.Restricted
pub use Rattle.cedar_model.specs.laws.Restricted as RestrictedLaws
pub use Rattle.cedar_model.specs.laws.Soundness as MeaningLaws
pub use Rattle.cedar_model.specs.Reordering
pub use Rattle.cedar_model.specs.laws.Policies as PolicyLaws
pub use Rattle.cedar_model.specs.examples.Setting as Examples
pub use Rattle.cedar_model.specs.examples.Answers as Rows
pub use Rattle.cedar_model.specs.Configurations
pub use Rattle.cedar_model.specs.Responses
pub use Rattle.cedar_model.specs.examples.Meanings
pub use Rattle.cedar_model.specs.Refusals
pub use Rattle.cedar_model.specs.Chains
pub use Rattle.cedar_model.specs.Depth
pub use Rattle.cedar_model.specs.laws.Responses as ResponseLaws
pub use Rattle.cedar_model.specs.examples.Needs
pub use Rattle.cedar_model.specs.examples.Instances
pub use Rattle.cedar_model.specs.Resolutions
pub use Rattle.cedar_model.specs.laws.Resolutions as ResolutionLaws
pub use Rattle.cedar_model.specs.Authorizations
pub use Rattle.cedar_model.specs.laws.Authorizations as AuthorizationLaws
pub use Rattle.cedar_model.specs.Reports
pub use Rattle.cedar_model.specs.laws.Reports as ReportLaws
pub use Rattle.cedar_model.specs.laws.Chains as ChainLaws
pub use Rattle.cedar_model.specs.Progress
pub use Rattle.cedar_model.specs.examples.Chains as ChainExamples
pub use Rattle.cedar_model.specs.examples.StoredChains
pub use Rattle.cedar_model.specs.Headline
pub use Rattle.cedar_model.specs.examples.Tables
pub use Rattle.cedar_model.specs.lemmas
pub use Rattle.cedar_laws.specs.AlikeRuns
pub use Rattle.cedar_laws.specs.EqualRuns
pub use Rattle.cedar_laws.specs.EqualSteps
pub use Rattle.cedar_laws.specs.Faithful
pub use Rattle.cedar_laws.specs.FaithfulInstances
pub use Rattle.cedar_laws.specs.Index
pub use Rattle.cedar_laws.specs.LevelRuns
pub use Rattle.cedar_laws.specs.StepChains
