use Rattle.std.proofs.Common.{zero, suc, sym, ap, ◌∙◌, arith}
use Rattle.std.specs.Rc.{rc_str_bytes}
use Rattle.cedar_model.specs.Terms.{variable}
use Rattle.cedar_model.specs.Failures.{answers}
use Rattle.cedar_names.specs.Leaves.{variable_view}
use Rattle.cedar_values.specs.Residuals.{partial_view}
use Rattle.cedar_layers.specs.Stores.{entity_view}
use Rattle.cedar_interpreter.specs.Known.{known_view, known_for}
use Rattle.cedar_interpreter.specs.Settings.{given_for, evaluation_setting, calls_in}
use Rattle.cedar_interpreter.proofs.KnownLaws.{stored_direct}
use Rattle.cedar_interpreter.proofs.Looked.{known_of_variable}
use Rattle.cedar_interpreter.proofs.evaluation.Evaluation.attribute_of_variable.Goals as goal

pub returns-in-Stored : goal.returns-in-Stored
returns-in-Stored g c r zero speaks low = absurd (omega (arith, low))
returns-in-Stored g c r (suc zero) speaks low = absurd (omega (arith, low))
returns-in-Stored g c r (suc (suc k)) speaks low =
    let e = c.args.self.now in
    let x = variable_view c.args.var in
    stored_direct (evaluation_setting r e) (calls_in e) (suc k) (variable x) (partial_view (given_for e.given.now x)) (rc_str_bytes c.args.attr.now) (known_for e.given.now.known x)
    (ap answers (speaks x)) (known_of_variable e.given.now x) (entity_view c.in-Stored.entity.now) c.stored_value.result
    (sym c.known_for.ensures ∙ ap known_view c.in-Stored.is) c.stored_value.ensures
