-- The levels of expressions, under one short name.
use Rattle.cedar_expressions.proofs.Levels.{levels, view_by_kind}

pub ruleset terms = (view_by_kind, levels)
