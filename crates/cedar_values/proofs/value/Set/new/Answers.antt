use Rattle.cedar_values.proofs.SetOrder.{canonical_set-deduped, canonical_set-sorted, firsts-sorted}
use Rattle.cedar_values.proofs.value.Set.new.Goals as goal

pub invariant_of-result : goal.invariant_of-result
invariant_of-result c =
    rw c.in_ok-new.ensures.ok (canonical_set-deduped c.sort.new.self.items c.dedup.new.self.items c.in_ok-sort.ensures.sorted c.dedup.ensures.filtered)

pub returns-clause-all : goal.returns-clause-all
returns-clause-all c =
    rw c.in_ok-new.ensures.ok (canonical_set-sorted c.args.elements.items c.sort.new.self.items c.dedup.new.self.items c.in_ok-sort.ensures.stable c.dedup.ensures.filtered)

pub returns-clause-members : goal.returns-clause-members
returns-clause-members c =
    rw c.in_ok-new.ensures.ok (firsts-sorted c.args.elements.items c.sort.new.self.items c.dedup.new.self.items c.in_ok-sort.ensures.sorted c.in_ok-sort.ensures.stable c.dedup.ensures.filtered)
