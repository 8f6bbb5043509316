-- The extensions that are named in the JSON of a response.
use Rattle.std.specs.Prelude.{Bool, true, false, ◌&&◌, List, [], ◌∷◌, Option, Some, None, if◌then◌else◌, bytes_eq, Ok}
use Rattle.json.specs.Json.{Json, Items, no_items, item}
use Rattle.json.specs.Find.{as_array, as_str}
use Rattle.cedar_model.specs.Terms.{Text}
use Rattle.cedar_response_json_reader.specs.declared.errors.ResponseRefusal.TheVariants as reasons
use Rattle.cedar_response_json_reader.specs.Refusals.{Said, refused}

abbrev pub is_text : Text → Option Text → Bool
is_text t None = false
is_text t (Some u) = bytes_eq u t

-- whether the items are exactly these texts, in order
abbrev pub are_texts : Items → List Text → Bool
are_texts no_items [] = true
are_texts no_items (t ∷ ts) = false
are_texts (item j js) [] = false
are_texts (item j js) (t ∷ ts) = is_text t (as_str j) && are_texts js ts

abbrev pub names_in : List Text → Option Items → Said Bool
names_in names None = refused reasons.NotAnArray
names_in names (Some js) = if are_texts js names then Ok true else refused reasons.OtherExtensions

-- the extensions are exactly those of these names
abbrev pub names_said : List Text → Json → Said Bool
names_said names j = names_in names (as_array j)
