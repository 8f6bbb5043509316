use Rattle.std.proofs.Common.{◌≡◌, drop}
use Rattle.cedar_sql_plan.specs.Said.{some_unsaid}
use Rattle.cedar_sql_plan.proofs.effects.has_unsaid.Given as goal

abbrev pub invariant-policies : goal.invariant-policies
invariant-policies l = some_unsaid l.columns (drop l.policy-index l.policies) ≡ some_unsaid l.columns l.fn.policies
