use Rattle.std.proofs.Common.{◌+◌, map, drop}
use Rattle.cedar_extensions.specs.Extensions.{extensions_view, calls_of}
use Rattle.cedar_log.specs.Reading.{asked_of}
use Rattle.cedar_expectations.proofs.Comparing.{AreSoFar}
use Rattle.cedar_regression.specs.Compared.{IsLineOver}
use Rattle.cedar_regression.proofs.comparisons.compare_lines.Given as goal

-- the lines so far, and those that are left
abbrev pub invariant-lines : goal.invariant-lines
invariant-lines g l =
    AreSoFar (IsLineOver (extensions_view l.fn.extensions) (calls_of l.fn.extensions) l.fn.old l.fn.new
    l.fn.entities l.fn.asked l.fn.way) (map (λ t. asked_of t.now) l.fn.lines)
    (map (λ t. asked_of t.now) (drop l.i l.fn.lines)) (l.i + 1) l.all
