-- The types that callers hold, for proofs of their own.
pub use Rattle.cedar_decisions.specs.declared.decision.Decision
pub use Rattle.cedar_layers.specs.declared.policies.policy.Policy
pub use Rattle.cedar_authorizer.specs.declared.responses.partial_response.PartialResponse
