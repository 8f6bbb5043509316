use Rattle.std.proofs.Common.{sym, ap, ◌∙◌, subst, length, ◌≤◌, List}
use Rattle.cedar_layers.specs.declared.policies.entities.Entity.{Entity}
use Rattle.cedar_hierarchy.specs.Sorting.{NameTest, named_in, with_name_of_each}
use Rattle.cedar_hierarchy.proofs.Marking.{none-named}
use Rattle.cedar_hierarchy.proofs.Passing.{drop_none}
use Rattle.cedar_hierarchy.proofs.Sorted.{each_is_named}
use Rattle.cedar_hierarchy.proofs.partial.uids_of.Goals as goal

pub entities-init : goal.entities-init
entities-init c =
    ap (λ (t : NameTest). with_name_of_each t c.args.entities.now.items) (none-named c.new-uids.result.keys c.new-uids.ensures.empty)

pub returns : goal.returns
returns c =
    let es = c.args.entities.now.items in
    let i = c.entities.entity-index in
    let is_passed : List Entity → Type 0 = λ xs. length xs ≤ i in
    let ended : length es ≤ i = subst is_passed c.deref-entity-items.ensures.value c.entities-test.false in
    sym (ap (with_name_of_each (named_in c.entities.uids.keys)) (drop_none es i ended)) ∙ c.entities.invariant ∙ each_is_named es
