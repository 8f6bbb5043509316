use Rattle.std.proofs.Common.{◌≡◌, ℕ, List, ◌++◌}
use Rattle.std.specs.Io.KnownBytes.{Appends}
use Rattle.cedar_writes.proofs.writing.write_whole.Given as goal

-- what is gone from the rest was appended
abbrev pub invariant-tries : goal.invariant-tries
invariant-tries g l =
    (done : List ℕ) × (l.fn.bytes ≡ done ++ l.rest)
    × Appends (g.W.Write.contents l.fn.writer) (g.W.Write.contents l.writer) done
