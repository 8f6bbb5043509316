use Rattle.std.proofs.Common.{refl, subst, ◌∙◌, ap}
use Rattle.cedar_layers.specs.Stores.{store_view}
use Rattle.cedar_overlay.specs.Overlaid.{Brought, overlaid, AreFree}
use Rattle.cedar_service.specs.Properties.{beside}
use Rattle.cedar_service.proofs.Laid.{are_taken}
use Rattle.cedar_service.proofs.properties.put_beside.Goals as goal

pub returns-in-Ok-with_attributes-clause-laid : goal.returns-in-Ok-with_attributes-clause-laid
returns-in-Ok-with_attributes-clause-laid c =
    let s = store_view c.args.store.now in
    beside c.args.uid refl
    (subst (λ (gs : Brought). AreFree s gs c.args.request_wins) c.in-Ok.ensures c.in-Ok-with_attributes.ensures.accepted)
    (c.in-Ok-with_attributes.ensures.store ∙ ap (overlaid s) c.in-Ok.ensures)

pub returns-in-Err-with_attributes-clause-refused : goal.returns-in-Err-with_attributes-clause-refused
returns-in-Err-with_attributes-clause-refused c =
    are_taken c.args.store.now c.args.uid c.args.attributes c.args.request_wins c.args.path.now c.in-Ok.brought.entries
    c.in-Ok.ensures c.requires c.in-Err-with_attributes.error c.in-Err-with_attributes.ensures.refused
    c.refuse_attributes-refusal.result c.refuse_attributes-refusal.ensures.reason c.refuse_attributes-refusal.ensures.fault
