use Rattle.std.proofs.Common.{◌≡◌, [], sym, ◌∙◌}
use Rattle.std.proofs.lemmas.List.{nil_from_length}
use Rattle.std.specs.Vec.Iter.{into_iter_items}
use Rattle.cedar_layers.specs.Stores.{stored_entity}
use Rattle.cedar_overlay.proofs.Widened.{one_more_widened, all_widened}
use Rattle.cedar_overlay.proofs.entities.widened_each.Goals as goal

pub entities-preserved : goal.entities-preserved
entities-preserved c = λ others h.
    one_more_widened (stored_entity c.args.entities.now) c.args.closed.items (into_iter_items c.next.new.self) c.entities.each.items c.add_last.new.items.items others
    c.in-Some.entity c.in_ok-wider.wider (into_iter_items c.entities.entity-iterator) c.in-Some.ensures.steps.0 c.in_ok-add_last.ensures.ok c.in_ok-wider.ensures c.entities.invariant h

pub returns : goal.returns
returns c =
    let left = into_iter_items c.entities.entity-iterator in
    let none : left ≡ [] = nil_from_length _ (sym c.entities.entity-iterator.rest.ok.0 ∙ c.in-None.ensures.steps.0) in
    all_widened (stored_entity c.args.entities.now) c.args.closed.items left c.entities.each.items none c.entities.invariant
