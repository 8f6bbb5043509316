use Rattle.std.proofs.Common.{ap, ◌∙◌}
use Rattle.std.specs.Rc.{rc_str_bytes}
use Rattle.cedar_model.specs.Operators.{residual_in}
use Rattle.cedar_names.specs.Names.{uid_name}
use Rattle.cedar_layers.specs.Stores.{store_view, entity_view}
use Rattle.cedar_operators.proofs.Read.{attribute_there, attribute_missing}
use Rattle.cedar_operators.proofs.stored_residuals.attribute_of_entity.Goals as goal

pub returns-in-Some : goal.returns-in-Some
returns-in-Some c =
    c.residual_in.ensures ∙ ap residual_in (rw c.deref.ensures.value at c.get-in-Some.ensures.value)
    ∙ attribute_there (store_view c.args.entities.now) (uid_name c.args.uid.now) (rc_str_bytes c.args.attr.now)
    (entity_view c.in-Some.entity.now) c.in-Some.ensures.view

pub returns-in-None : goal.returns-in-None
returns-in-None c =
    attribute_missing (store_view c.args.entities.now) (uid_name c.args.uid.now) (rc_str_bytes c.args.attr.now)
    c.in-None.ensures.view
