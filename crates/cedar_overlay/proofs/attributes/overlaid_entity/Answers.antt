use Rattle.std.proofs.Common.{Option, Some, ap, ◌∙◌, subst, refl}
use Rattle.cedar_model.specs.Settings.{StoredEntity}
use Rattle.cedar_names.specs.Names.{uid_name}
use Rattle.cedar_overlay.specs.declared.error.AttributesError.TheVariants.{NotStored}
use Rattle.cedar_overlay.specs.Overlaid.{values_view, overlaid_entity, IsFree}
use Rattle.cedar_overlay.specs.Putting.{IsRefusedFor}
use Rattle.cedar_overlay.proofs.attributes.overlaid_entity.Goals as goal

pub returns-in-Ok-clause-view : goal.returns-in-Ok-clause-view
returns-in-Ok-clause-view c =
    ap Some c.in-Ok.ensures.view ∙ ap (overlaid_entity (Some c.args.attributes)) c.in-Some.ensures.view

pub returns-in-Ok-clause-free : goal.returns-in-Ok-clause-free
returns-in-Ok-clause-free c =
    subst (IsFree c.args.request_wins (values_view c.args.attributes)) c.in-Some.ensures.view c.in-Ok.ensures.free

pub returns-in-Err-clause-refused : goal.returns-in-Err-clause-refused
returns-in-Err-clause-refused c =
    subst (λ (d : Option StoredEntity). IsRefusedFor (uid_name c.args.uid) (values_view c.args.attributes) c.args.request_wins d c.in-Err.error)
    c.in-Some.ensures.view c.in-Err.ensures.refused

pub returns-in-None-clause-refused : goal.returns-in-None-clause-refused
returns-in-None-clause-refused c =
    subst (λ (d : Option StoredEntity). IsRefusedFor (uid_name c.args.uid) (values_view c.args.attributes) c.args.request_wins d (NotStored c.args.uid))
    c.in-None.ensures.view refl
