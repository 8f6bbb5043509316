-- The actions that the scopes of policies name, as plain data.
use Rattle.std.specs.Prelude.{Bool, List, [], Option, None, Some}
use Rattle.std.specs.List.{list_any}
use Rattle.cedar_model.specs.Terms.{EntityName}
use Rattle.cedar_model.specs.Settings.{is_among}
use Rattle.cedar_layers.specs.Policies.{PolicyView}
use Rattle.cedar_layers.specs.Scopes.{asked_entities}

-- none, where nothing is asked for
abbrev pub those : Option (List EntityName) → List EntityName
those None = []
those (Some es) = es

-- the actions that a scope asks for: by `==`, by `in`, or by `in` beside a list
abbrev pub actions_named : PolicyView → List EntityName
actions_named p = those (asked_entities p.slots p.action_constraint)

-- the scope of one of these policies asks for the action
abbrev pub is_named_action : List PolicyView → EntityName → Bool
is_named_action ps n = list_any (λ p. is_among n (actions_named p)) ps
