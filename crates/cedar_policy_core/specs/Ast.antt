-- What names, expressions, values, policies, requests and restricted expressions are seen as, and which unknowns stand in them.
pub use Rattle.cedar_names.specs.Names
pub use Rattle.cedar_names.specs.Leaves
pub use Rattle.cedar_names.specs.Texts
pub use Rattle.cedar_names.specs.Equality
pub use Rattle.cedar_names.specs.NameFields
pub use Rattle.cedar_names.specs.EntityFields
pub use Rattle.cedar_names.specs.UnknownFields
pub use Rattle.cedar_names.specs.PatternFields
pub use Rattle.cedar_expressions.specs.View
pub use Rattle.cedar_expressions.specs.Nodes
pub use Rattle.cedar_expressions.specs.Errors
pub use Rattle.cedar_expressions.specs.Records
pub use Rattle.cedar_expressions.specs.Mappings
pub use Rattle.cedar_expressions.specs.Readers as ExpressionReaders
pub use Rattle.cedar_values.specs.Sound
pub use Rattle.cedar_values.specs.Representations
pub use Rattle.cedar_values.specs.Kinds
pub use Rattle.cedar_values.specs.Left
pub use Rattle.cedar_values.specs.Sizes
pub use Rattle.cedar_values.specs.Compared
pub use Rattle.cedar_values.specs.Hashed
pub use Rattle.cedar_values.specs.Members
pub use Rattle.cedar_values.specs.Residuals
pub use Rattle.cedar_layers.specs.Policies
pub use Rattle.cedar_layers.specs.PolicySets
pub use Rattle.cedar_layers.specs.Scopes
pub use Rattle.cedar_layers.specs.Parts
pub use Rattle.cedar_requests.specs.Contexts
pub use Rattle.cedar_requests.specs.Named
pub use Rattle.cedar_requests.specs.LeftPairs
pub use Rattle.cedar_requests.specs.ContextFields
pub use Rattle.cedar_requests.specs.RequestFields
pub use Rattle.cedar_requests.specs.Requests
pub use Rattle.cedar_requests.specs.Types
pub use Rattle.cedar_requests.specs.Texts as RequestTexts
pub use Rattle.cedar_requests.specs.Errors as ContextErrors
pub use Rattle.cedar_requests.specs.Creations
pub use Rattle.cedar_requests.specs.Substitutions
pub use Rattle.cedar_requests.specs.Walks
pub use Rattle.cedar_restricted.specs.Views
pub use Rattle.cedar_restricted.specs.Refusals
pub use Rattle.cedar_restricted.specs.Kinds as RestrictedKinds
pub use Rattle.cedar_restricted.specs.Readers
pub use Rattle.cedar_restricted.specs.Iterators
pub use Rattle.cedar_restricted.specs.Shapes
pub use Rattle.cedar_restricted.specs.Types as RestrictedTypes
pub use Rattle.cedar_restricted.specs.Restricted
pub use Rattle.cedar_unknowns.specs.Occurrences
pub use Rattle.cedar_unknowns.specs.Entities as UnknownEntities
pub use Rattle.cedar_unknowns.specs.Naming
pub use Rattle.cedar_unknowns.specs.NamingInstances
pub use Rattle.cedar_unknowns.specs.Themselves
