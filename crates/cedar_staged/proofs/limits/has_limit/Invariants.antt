use Rattle.std.proofs.Common.{◌≡◌, drop}
use Rattle.cedar_model.specs.Chains.{has_limit}
use Rattle.cedar_authorizer.specs.responses.Responses.{errors_view}
use Rattle.cedar_staged.proofs.limits.has_limit.Given as goal

abbrev pub invariant-errors : goal.invariant-errors
invariant-errors l = has_limit (errors_view (drop l.error-index l.errors)) ≡ has_limit (errors_view l.fn.errors)
