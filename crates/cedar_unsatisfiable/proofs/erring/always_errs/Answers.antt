-- Its clauses are no boolean, and so it errs wherever its scope holds.
use Rattle.cedar_expressions.specs.View.{view}
use Rattle.cedar_layers.specs.Policies.{policy_view}
use Rattle.cedar_unsatisfiable.proofs.Failing.{erring_if}
use Rattle.cedar_unsatisfiable.proofs.erring.always_errs.Goals as goal

pub returns-clause-errs : goal.returns-clause-errs
returns-clause-errs c =
    erring_if (policy_view c.args.policy.now) (view c.when_clause.result.now) c.is_never_truth.result
    c.when_clause.ensures.view c.is_never_truth.ensures.never
