use Rattle.std.proofs.Common.{◌≡◌}
use Rattle.cedar_unknowns.specs.Occurrences.{asked_each, noted_each}
use Rattle.cedar_unknowns.specs.Residuals.{entry_occurrences}
use Rattle.cedar_unknowns.proofs.responses.note_residuals.Given as goal

-- what is left to note leads where all of it did
abbrev pub invariant-residuals : goal.invariant-residuals
invariant-residuals l =
    noted_each (entry_occurrences l.residual-iterator) (asked_each l.found.keys)
    ≡ noted_each (entry_occurrences l.fn.residuals.entries) (asked_each l.fn.found.keys)
