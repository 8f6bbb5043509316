use Rattle.std.proofs.Common.{sym, ap, ◌∙◌}
use Rattle.cedar_model.specs.Chains.{has_limit}
use Rattle.cedar_authorizer.specs.responses.Responses.{errors_view}
use Rattle.cedar_authorizer.specs.Running.{errors_of}
use Rattle.cedar_model.proofs.Limits.{none_has}
use Rattle.cedar_cli.proofs.steps.take.Goals as goal

pub returns-clause-taken : goal.returns-clause-taken
returns-clause-taken g c = record {
  no_limit = none_has (errors_of c.args.response.now)
      (ap (λ es. has_limit (errors_view es)) (sym c.deref.ensures.value) ∙ sym c.has_met_limit.ensures
      ∙ c.if-has_met_limit.false);
  steps = c.in_ok-take_values.ensures.step;
}
