-- What a walk over parents has found.
use Rattle.std.specs.Prelude.{if◌then◌else◌, List, [], ◌∷◌, ◌++◌}
use Rattle.cedar_model.specs.Terms.{EntityName}
use Rattle.cedar_model.specs.Settings.{is_among}

-- these names, with this one behind them unless it is one of them
abbrev pub marked : EntityName → List EntityName → List EntityName
marked n ns = if is_among n ns then ns else ns ++ n ∷ []

-- these names, with each of the first list marked in turn
abbrev pub marked_each : List EntityName → List EntityName → List EntityName
marked_each [] ns = ns
marked_each (m ∷ ms) ns = marked_each ms (marked m ns)
