use Rattle.std.proofs.Common.{◌≡◌, ◌+◌, ◌*◌, max, drop}
use Rattle.cedar_expressions.specs.declared.expr.Expr.{size-Expr}
use Rattle.cedar_expressions.specs.View.{terms_view, fields_view}
use Rattle.cedar_unknowns.specs.Occurrences.{asked_each, noted_each, occurrences_each, occurrences_at}
use Rattle.cedar_unknowns.proofs.noting.+note.Given as goal

-- what is left to note leads where all of it did
abbrev pub invariant-note_each-parts : goal.invariant-note_each-parts
invariant-note_each-parts l =
    noted_each (occurrences_each (terms_view (drop l.part-index l.part-items))) (asked_each l.found.keys)
    ≡ noted_each (occurrences_each (terms_view l.parts.items)) (asked_each l.initial.found.keys)

abbrev pub invariant-note_at-parts : goal.invariant-note_at-parts
invariant-note_at-parts l =
    noted_each (occurrences_at (fields_view l.part-iterator)) (asked_each l.found.keys)
    ≡ noted_each (occurrences_at (fields_view l.parts.entries)) (asked_each l.initial.found.keys)

-- an expression is larger than its parts, and what goes through several parts stands above what goes through one
abbrev pub decreases-note_unknowns : goal.decreases-note_unknowns
decreases-note_unknowns l = 5 * size-Expr l.expr.now

abbrev pub decreases-note_two : goal.decreases-note_two
decreases-note_two l = 5 * max (size-Expr l.first.now) (size-Expr l.second.now) + 3

abbrev pub decreases-note_three : goal.decreases-note_three
decreases-note_three l = 5 * max (size-Expr l.first.now) (max (size-Expr l.second.now) (size-Expr l.third.now)) + 3

abbrev pub decreases-note_each : goal.decreases-note_each
decreases-note_each l = 5 * goal.size-note_each l + 3

abbrev pub decreases-note_at : goal.decreases-note_at
decreases-note_at l = 5 * goal.size-note_at l + 3
