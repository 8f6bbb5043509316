use Rattle.std.specs.List.{All}
use Rattle.cedar_explain.specs.Lacking.{IsLack}
use Rattle.cedar_explain.proofs.lacks.lacks_of.Given as goal

-- each is so
abbrev pub invariant-policies : goal.invariant-policies
invariant-policies g l = All (IsLack l.fn.evaluator) l.lacks.items
