-- Texts in JSON: lists of them, and members that are texts.
use Rattle.std.specs.Prelude.{cond, List, [], ◌∷◌, ◌++◌, map}
use Rattle.json.specs.Json.{Json, string, array, object}
use Rattle.json.specs.Value.{items_of}
use Rattle.cedar_model.specs.Terms.{Text}
use Rattle.cedar_model.specs.Outcomes.{has_text}
use Rattle.cedar_json_writer.specs.Trees.{members_of}
use Rattle.cedar_unknowns.specs.Occurrences.{Asked}

-- the array of these texts
abbrev pub texts_json : List Text → Json
texts_json ts = array (items_of (map string ts))

-- the object of these members
abbrev pub object_of : List (Text × Json) → Json
object_of ms = object (members_of ms)

-- these texts, with this one behind them unless it is one of them
abbrev pub text_once : Text → List Text → List Text
text_once t ts = cond (has_text t ts) ts (ts ++ t ∷ [])

-- these texts, with the name of each unknown put behind them in turn, unless it is one of them
abbrev pub names_behind : List Asked → List Text → List Text
names_behind [] ts = ts
names_behind (a ∷ more) ts = names_behind more (text_once a.0 ts)

-- the names of unknowns, each once, where it stands first
abbrev pub names_once : List Asked → List Text
names_once all = names_behind all []
