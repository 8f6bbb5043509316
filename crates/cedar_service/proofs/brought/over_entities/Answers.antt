use Rattle.std.proofs.Common.{◌≡◌, ◌==◌, true, false, List, length, sym, ◌∙◌, subst}
use Rattle.cedar_layers.specs.declared.policies.entities.Entity.{Entity}
use Rattle.cedar_overlay.specs.Bases.{base_entities}
use Rattle.cedar_service.proofs.Over.{over_none}
use Rattle.cedar_service.proofs.brought.over_entities.Goals as goal

pub returns-then-is_empty-clause-over : goal.returns-then-is_empty-clause-over
returns-then-is_empty-clause-over c =
    over_none (base_entities c.args.base.now) c.args.entities.items
    (subst (λ (es : List Entity). (length es == 0) ≡ true) c.as_slice.ensures.value
    (sym c.is_empty.ensures ∙ c.if-is_empty.true))

pub add_entities-requires : goal.add_entities-requires
add_entities-requires c =
    subst (λ (es : List Entity). (length es == 0) ≡ false) c.as_slice.ensures.value
    (sym c.is_empty.ensures ∙ c.if-is_empty.false)
