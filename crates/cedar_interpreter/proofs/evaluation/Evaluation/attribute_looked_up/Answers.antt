use Rattle.std.proofs.Common.{zero, suc, sym, ap, ◌∙◌, arith}
use Rattle.std.specs.Rc.{rc_str_bytes}
use Rattle.cedar_model.specs.Terms.{variable}
use Rattle.cedar_model.specs.Failures.{answers}
use Rattle.cedar_names.specs.Leaves.{variable_view}
use Rattle.cedar_values.specs.Residuals.{partial_view}
use Rattle.cedar_interpreter.specs.Settings.{evaluation_setting, calls_in}
use Rattle.cedar_interpreter.proofs.DirectLaws.{attribute_direct, value_found}
use Rattle.cedar_interpreter.proofs.evaluation.Evaluation.attribute_looked_up.Goals as goal

pub returns-in-Value : goal.returns-in-Value
returns-in-Value g c r zero speaks low = absurd (omega (arith, low))
returns-in-Value g c r (suc zero) speaks low = absurd (omega (arith, low))
returns-in-Value g c r (suc (suc k)) speaks low =
    let s = evaluation_setting r c.args.self.now in
    attribute_direct s (calls_in c.args.self.now) (suc k) (variable (variable_view c.args.var)) c.in-Value.value.what (rc_str_bytes c.args.attr.now) c.answered_value.result
    (sym (ap (λ p. answers (partial_view p)) c.in-Value.is) ∙ ap (λ p. answers (partial_view p)) c.given_for.ensures ∙ ap answers (speaks (variable_view c.args.var)))
    (value_found c.attribute_of.result c.answered_value.result _ c.answered_value.ensures (c.attribute_of.ensures s))
