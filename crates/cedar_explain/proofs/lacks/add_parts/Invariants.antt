use Rattle.std.specs.List.{All}
use Rattle.cedar_explain.specs.Lacking.{IsLack}
use Rattle.cedar_explain.proofs.lacks.add_parts.Given as goal

-- if those that were there are so, all are
abbrev pub invariant-parts : goal.invariant-parts
invariant-parts g l = All (IsLack l.fn.evaluator) l.fn.lacks.items → All (IsLack l.fn.evaluator) l.lacks.items
