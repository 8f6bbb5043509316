-- The unknowns of what is left of policies, as a response keeps it.
use Rattle.std.specs.Prelude.{List, [], ◌∷◌, ◌++◌}
use Rattle.cedar_expressions.specs.View.{view}
use Rattle.cedar_authorizer.specs.responses.Rows.{ResidualEntry}
use Rattle.cedar_unknowns.specs.Occurrences.{Asked, occurrences}

-- those of the residuals of a map, in its order
abbrev pub entry_occurrences : List ResidualEntry → List Asked
entry_occurrences [] = []
entry_occurrences (e ∷ es) = occurrences (view e.1.0.value) ++ entry_occurrences es
