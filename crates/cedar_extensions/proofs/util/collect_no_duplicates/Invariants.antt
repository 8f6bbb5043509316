use Rattle.cedar_extensions.proofs.Collecting.{Collects}
use Rattle.cedar_extensions.proofs.util.collect_no_duplicates.Given as goal

abbrev pub invariant-pairs : goal.invariant-pairs
invariant-pairs g l =
    (goal.iterator-pairs g).can_next l.key-iterator
    × (goal.iterator-pairs g).is_finite l.key-iterator
    × Collects g.K.PartialEq.eq (goal.iterator-pairs g).next_gives l.fn.pairs l.key-iterator l.map.entries
