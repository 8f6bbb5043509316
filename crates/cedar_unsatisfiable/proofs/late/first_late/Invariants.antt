use Rattle.std.proofs.Common.{◌≡◌, [], take, drop}
use Rattle.cedar_unsatisfiable.specs.Late.{late_behind, terms_seen}
use Rattle.cedar_unsatisfiable.proofs.late.first_late.Given as goal

-- what is left says what all of it does, behind those that are passed
abbrev pub invariant-parts : goal.invariant-parts
invariant-parts l =
    late_behind (terms_seen (take l.i l.parts)) (terms_seen (drop l.i l.parts)) ≡ late_behind [] (terms_seen l.parts)
