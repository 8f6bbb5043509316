use Rattle.std.proofs.Common.{◌≡◌, ◌≤◌, length, drop}
use Rattle.cedar_values.specs.Compared.{listed_cmp, entries_cmp}
use Rattle.cedar_values.proofs.value.order.+order.Given as goal

abbrev pub invariant-compare_elements-elements : goal.invariant-compare_elements-elements
invariant-compare_elements-elements l =
    (l.i ≤ length l.b) × (listed_cmp (drop l.i l.a) (drop l.i l.b) ≡ listed_cmp l.a l.b)

abbrev pub invariant-compare_entries-entries : goal.invariant-compare_entries-entries
invariant-compare_entries-entries l =
    (goal.iterator-compare_entries-entries).can_next l.key-iterator ×
    (goal.iterator-compare_entries-entries).is_finite l.key-iterator ×
    (entries_cmp l.key-iterator l.others ≡ entries_cmp l.a.entries l.b.entries)
