use Rattle.std.proofs.Common.{◌≡◌, [], sym, ◌∙◌}
use Rattle.std.proofs.lemmas.List.{nil_from_length}
use Rattle.std.specs.Vec.Iter.{into_iter_items}
use Rattle.cedar_hierarchy.specs.Listed.{listed_parents}
use Rattle.cedar_hierarchy.proofs.Closures.{one_more_closed, all_closed}
use Rattle.cedar_hierarchy.proofs.closing.close_each.Goals as goal

pub entities-preserved : goal.entities-preserved
entities-preserved c = record {
  known = c.in_ok-closed.ensures.known;
  closed = λ others h. one_more_closed (listed_parents c.args.parents.now.entries) c.args.entities.items (into_iter_items c.next.new.self) c.entities.each.items c.add_last.new.items.items others c.in-Some.entity c.in_ok-closed.closed (into_iter_items c.entities.entity-iterator) c.in-Some.ensures.steps.0 c.in_ok-add_last.ensures.ok c.in_ok-closed.ensures.ok c.entities.invariant.closed h;
}

pub returns-clause-ok : goal.returns-clause-ok
returns-clause-ok c =
    let left = into_iter_items c.entities.entity-iterator in
    let none : left ≡ [] = nil_from_length _ (sym c.entities.entity-iterator.rest.ok.0 ∙ c.in-None.ensures.steps.0) in
    all_closed (listed_parents c.args.parents.now.entries) c.args.entities.items left c.entities.each.items none c.entities.invariant.closed
