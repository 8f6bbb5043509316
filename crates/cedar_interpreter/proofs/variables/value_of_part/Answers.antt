use Rattle.std.proofs.Common.{sym, ap, ◌∙◌}
use Rattle.cedar_model.specs.Failures.{value}
use Rattle.cedar_values.specs.Residuals.{partial_view}
use Rattle.cedar_interpreter.proofs.variables.value_of_part.Goals as goal

pub returns-in-Ok : goal.returns-in-Ok
returns-in-Ok c = ap partial_view c.in-Value.is ∙ sym (ap (λ v. value v.what) c.in-Ok.ensures.cases)
