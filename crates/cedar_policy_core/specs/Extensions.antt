-- What extensions and their functions are seen as, and what calls answer.
pub use Rattle.cedar_extensions.specs.Outcomes
pub use Rattle.cedar_extensions.specs.Answers
pub use Rattle.cedar_extensions.specs.Types
pub use Rattle.cedar_extensions.specs.Functions
pub use Rattle.cedar_extensions.specs.Extension
pub use Rattle.cedar_extensions.specs.Extensions
pub use Rattle.cedar_extensions.specs.Iterators
pub use Rattle.cedar_extensions.specs.Refused
pub use Rattle.cedar_extensions.specs.Computations
pub use Rattle.cedar_extensions.specs.Standard
pub use Rattle.cedar_standard_functions.specs.Standard as StandardFunctions
