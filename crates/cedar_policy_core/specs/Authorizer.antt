-- What an authorizer is given, what it answers, and what it promises.
pub use Rattle.cedar_decisions.specs.Decisions
pub use Rattle.cedar_authorizer.specs.responses.Concrete
pub use Rattle.cedar_authorizer.specs.responses.Copies
pub use Rattle.cedar_authorizer.specs.responses.ErrorStates
pub use Rattle.cedar_authorizer.specs.responses.Found
pub use Rattle.cedar_authorizer.specs.responses.Kept
pub use Rattle.cedar_authorizer.specs.responses.Promises
pub use Rattle.cedar_authorizer.specs.responses.Readers
pub use Rattle.cedar_authorizer.specs.responses.Responses
pub use Rattle.cedar_authorizer.specs.responses.Rows
pub use Rattle.cedar_authorizer.specs.responses.Sheets
pub use Rattle.cedar_authorizer.specs.reauthorization.Errors
pub use Rattle.cedar_authorizer.specs.reauthorization.Concretizations
pub use Rattle.cedar_authorizer.specs.reauthorization.Policies
pub use Rattle.cedar_authorizer.specs.Configured
pub use Rattle.cedar_authorizer.specs.ByHand
pub use Rattle.cedar_authorizer.specs.Determined
pub use Rattle.cedar_authorizer.specs.Responding
pub use Rattle.cedar_authorizer.specs.Running
pub use Rattle.cedar_authorizer.specs.Stability
pub use Rattle.cedar_authorizer.specs.Steps
pub use Rattle.cedar_authorizer.specs.Headline
pub use Rattle.cedar_faithful.specs.Owed
pub use Rattle.cedar_unknowns.specs.Finishing
pub use Rattle.cedar_heights.specs.Capped
pub use Rattle.cedar_heights.specs.Heights
pub use Rattle.cedar_heights.specs.Limits
pub use Rattle.cedar_json_writer.specs.Texts as JsonTexts
pub use Rattle.cedar_json_writer.specs.Errors as JsonErrors
pub use Rattle.cedar_json_writer.specs.Responses as JsonResponses
