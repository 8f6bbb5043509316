use Rattle.std.proofs.Common.{subst}
use Rattle.cedar_layers.specs.declared.policies.entities.Entities.{Entities}
use Rattle.cedar_layers.specs.Stores.{stored_entity}
use Rattle.cedar_hierarchy.specs.Sorting.{named_in}
use Rattle.cedar_overlay.specs.Bases.{base_entities}
use Rattle.cedar_overlay.specs.Adding.{AreNew}
use Rattle.cedar_overlay.proofs.Results.{ok_then, err_then}
use Rattle.cedar_overlay.proofs.Checked.{are_addable, are_refused}
use Rattle.cedar_overlay.proofs.checks.check_each.Goals as goal

pub returns-in-Ok-clause-accepted : goal.returns-in-Ok-clause-accepted
returns-in-Ok-clause-accepted c =
    let es = c.args.brought.now.items in
    let new : AreNew (stored_entity (base_entities c.args.base.now)) es = subst (λ (s : Entities). AreNew (stored_entity s) es) c.entities.ensures c.in-Ok.ensures.new in
    ok_then c.check_places.result _ _ (are_addable (stored_entity (base_entities c.args.base.now)) es new (named_in c.in-Ok.names.keys) c.in-Ok.ensures.names) c.check_places.ensures.placed

pub returns-in-Ok-clause-refused : goal.returns-in-Ok-clause-refused
returns-in-Ok-clause-refused c =
    let es = c.args.brought.now.items in
    let new : AreNew (stored_entity (base_entities c.args.base.now)) es = subst (λ (s : Entities). AreNew (stored_entity s) es) c.entities.ensures c.in-Ok.ensures.new in
    err_then c.check_places.result _ _ (λ x one. are_refused (stored_entity (base_entities c.args.base.now)) es new (named_in c.in-Ok.names.keys) x c.in-Ok.ensures.names one) c.check_places.ensures.refused
