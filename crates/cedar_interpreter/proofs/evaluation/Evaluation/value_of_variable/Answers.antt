use Rattle.std.proofs.Common.{zero, suc, ap, ◌∙◌, arith}
use Rattle.cedar_model.specs.Terms.{variable}
use Rattle.cedar_model.specs.Failures.{answers}
use Rattle.cedar_names.specs.Leaves.{variable_view}
use Rattle.cedar_values.specs.Residuals.{partial_view}
use Rattle.cedar_interpreter.specs.Settings.{evaluation_setting, calls_in}
use Rattle.cedar_interpreter.proofs.DirectLaws.{value_direct}
use Rattle.cedar_interpreter.proofs.evaluation.Evaluation.value_of_variable.Goals as goal

pub returns : goal.returns
returns g c r zero speaks low = absurd (omega (arith, low))
returns g c r (suc k) speaks low =
    let e = c.args.self.now in
    let x = variable_view c.args.var in
    value_direct (evaluation_setting r e) (calls_in e) (suc k) (variable x) (partial_view c.given_for.result.now) c.value_of_part.result
    (ap (λ p. answers (partial_view p)) c.given_for.ensures ∙ ap answers (speaks x)) c.value_of_part.ensures
