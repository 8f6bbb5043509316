use Rattle.std.proofs.Common.{◌+◌, subst, take, drop}
use Rattle.std.specs.List.{All}
use Rattle.std.proofs.lemmas.List.Elements.{All-nil}
use Rattle.cedar_layers.specs.Stores.{stored_entity}
use Rattle.cedar_hierarchy.specs.Sorting.{named_in}
use Rattle.cedar_overlay.specs.Bases.{base_entities}
use Rattle.cedar_overlay.specs.Adding.{HasItsPlace}
use Rattle.cedar_overlay.proofs.Standing.{stands_between, all_taken, holds_more}
use Rattle.cedar_overlay.proofs.checks.check_places.Goals as goal

pub brought-init : goal.brought-init
brought-init c =
    All-nil (HasItsPlace (stored_entity (base_entities c.args.base.now)) (named_in c.args.names.now.keys))

pub brought-preserved : goal.brought-preserved
brought-preserved c =
    holds_more (HasItsPlace (stored_entity (base_entities c.args.base.now)) (named_in c.args.names.now.keys)) c.args.brought.now.items c.deref-entity-items.result.now
    c.brought.entity-index c.entity-item.result c.deref-entity-items.ensures.value c.brought-test.true c.entity-item.is c.brought.invariant c.in-Ok.ensures.placed

pub returns-in-Err-clause-refused : goal.returns-in-Err-clause-refused
returns-in-Err-clause-refused c =
    let es = c.args.brought.now.items in
    let i = c.brought.entity-index in record {
      before = take i es;
      one = c.entity-item.result;
      behind = drop (i + 1) es;
      all_are =
          stands_between es c.deref-entity-items.result.now i c.entity-item.result c.deref-entity-items.ensures.value c.brought-test.true c.entity-item.is;
      placeless = c.in-Err.ensures.refused;
    }

pub returns-clause-placed : goal.returns-clause-placed
returns-clause-placed c =
    let es = c.args.brought.now.items in
    subst (All (HasItsPlace (stored_entity (base_entities c.args.base.now)) (named_in c.args.names.now.keys)))
    (all_taken es c.deref-entity-items.result.now c.brought.entity-index c.deref-entity-items.ensures.value c.brought-test.false) c.brought.invariant
