use Rattle.std.specs.Rc.{rc_str_bytes}
use Rattle.cedar_model.specs.Settings.{part_at}
use Rattle.cedar_values.specs.Residuals.{partial_view}
use Rattle.cedar_layers.specs.Stores.{entity_view}
use Rattle.cedar_interpreter.proofs.Looked.{stored_as}
use Rattle.cedar_interpreter.proofs.variables.stored_value.Goals as goal

pub returns-in-Some : goal.returns-in-Some
returns-in-Some c =
    stored_as c.value_of_part.result (partial_view c.in-Some.part.now) (part_at (rc_str_bytes c.args.attr.now) (entity_view c.args.entity.now).attributes)
    c.value_of_part.ensures (rw c.deref.ensures.value at c.in-Some.ensures.value)
