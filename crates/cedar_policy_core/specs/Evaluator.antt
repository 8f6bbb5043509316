-- What evaluators are given, what they answer, and what they promise.
pub use Rattle.cedar_errors.specs.Answers
pub use Rattle.cedar_errors.specs.Errors
pub use Rattle.cedar_errors.specs.Fields
pub use Rattle.cedar_errors.specs.TypeTexts
pub use Rattle.cedar_errors.specs.Failures
pub use Rattle.cedar_errors.specs.Finals
pub use Rattle.cedar_errors.specs.Texts
pub use Rattle.cedar_operators.specs.Operands
pub use Rattle.cedar_restricted.specs.Evaluations as RestrictedEvaluations
pub use Rattle.cedar_restricted.specs.Evaluators as RestrictedEvaluators
pub use Rattle.cedar_restricted.specs.Elements as RestrictedElements
pub use Rattle.cedar_interpreter.specs.Settings
pub use Rattle.cedar_interpreter.specs.Promises
pub use Rattle.cedar_evaluator.specs.Decisions
pub use Rattle.cedar_evaluator.specs.Variables
pub use Rattle.cedar_evaluator.specs.Evaluations
