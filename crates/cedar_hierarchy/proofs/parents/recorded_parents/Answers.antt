use Rattle.std.proofs.Common.{sym, ap, ◌∙◌, subst, length, ◌≤◌, List}
use Rattle.cedar_layers.specs.declared.policies.entities.Entity.{Entity}
use Rattle.cedar_hierarchy.specs.Listed.{listed_parents, parents_with_each}
use Rattle.cedar_hierarchy.proofs.Listing.{each_is_recorded}
use Rattle.cedar_hierarchy.proofs.Passing.{drop_none}
use Rattle.cedar_hierarchy.proofs.parents.recorded_parents.Goals as goal

pub returns : goal.returns
returns c =
    let es = c.args.entities.now.items in
    let i = c.entities.entity-index in
    let is_passed : List Entity → Type 0 = λ xs. length xs ≤ i in
    let ended : length es ≤ i = subst is_passed c.deref-entity-items.ensures.value c.entities-test.false in
    sym (ap (parents_with_each (listed_parents c.entities.parents.entries)) (drop_none es i ended)) ∙ c.entities.invariant ∙ each_is_recorded es
