use Rattle.std.proofs.Common.{ap, ◌∙◌}
use Rattle.std.specs.Rc.{rc_str_bytes}
use Rattle.cedar_operators.specs.StoredResiduals.{value_in}
use Rattle.cedar_names.specs.Names.{uid_name}
use Rattle.cedar_layers.specs.Stores.{store_view, entity_view}
use Rattle.cedar_operators.proofs.Read.{value_there, value_missing}
use Rattle.cedar_operators.proofs.stored_residuals.next_of_entity.Goals as goal

pub returns-in-Some : goal.returns-in-Some
returns-in-Some c =
    c.value_in.ensures ∙ ap value_in (rw c.deref.ensures.value at c.get-in-Some.ensures.value)
    ∙ value_there (store_view c.args.entities.now) (uid_name c.args.uid.now) (rc_str_bytes c.args.attr.now)
    (entity_view c.in-Some.entity.now) c.in-Some.ensures.view

pub returns-in-None : goal.returns-in-None
returns-in-None c =
    value_missing (store_view c.args.entities.now) (uid_name c.args.uid.now) (rc_str_bytes c.args.attr.now)
    c.in-None.ensures.view
