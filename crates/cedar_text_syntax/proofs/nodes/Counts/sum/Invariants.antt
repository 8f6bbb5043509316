use Rattle.std.proofs.Common.{◌≡◌}
use Rattle.cedar_text_syntax.specs.Nodes.{sum_of, rest_of}
use Rattle.cedar_text_syntax.proofs.nodes.Counts.sum.Given as goal

abbrev pub invariant-loop-done : goal.invariant-loop-done
invariant-loop-done l = record { sum : l.sum ≡ sum_of l._done l.fn.self; rest : l.self ≡ rest_of l._done l.fn.self }
