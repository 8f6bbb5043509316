use Rattle.std.proofs.Common.{◌∙◌}
use Rattle.cedar_layers.specs.Stores.{entity_name}
use Rattle.cedar_layers.specs.declared.policies.entities.Entity.{Entity}
use denote.Ref.{Bor}
use Rattle.cedar_reasons.specs.Facts.{facts_view, of_entity, is_kept}
use Rattle.cedar_reasons.proofs.Listed.{all_map}
use Rattle.cedar_reasons.proofs.entities.keeps_each.Goals as goal

pub returns : goal.returns
returns c =
    c.keeps_lent.ensures ∙ all_map (λ (e : Bor Entity). e.now) (λ (e : Entity). is_kept (facts_view c.args.facts.now) (of_entity (entity_name e))) c.args.entities.now
