-- What JSON texts say.
use Rattle.std.specs.Prelude.{◌≡◌, ⊤, ℕ, ◌+◌, ◌*◌, min, Option, None, Ok, Err, option_and_then, IsSomeAnd}
use Rattle.json.specs.Json.{Json, document, value, if_last}
use Rattle.json.specs.Lex.{tokens}
use Rattle.json.specs.Strict.{HasUniqueKeys}
use Rattle.cedar_model.specs.Terms.{Text}
use Rattle.cedar_policy_json_reader.specs.declared.errors.PolicyJsonError.{PolicyJsonError}
use Rattle.cedar_policy_json_reader.specs.declared.errors.PolicyJsonError.TheVariants as errors
use Rattle.cedar_policy_json_reader.specs.Paths.{path_view}
use Rattle.cedar_policy_json_reader.specs.Refusals.{Said, and_then}
use Rattle.cedar_policy_json_reader.specs.Repeats.{keys_said}

-- the JSON value that the text is, with arrays and objects nested no deeper than the number
abbrev pub document_within : ℕ → Text → Option Json
document_within depth text = option_and_then (λ p. if_last p.0 p.1) (value depth (tokens text))

-- the most levels of an expression that are read of JSON
abbrev pub most_levels : ℕ
most_levels = 1000

-- how deep the JSON may nest of which expressions of so many levels are read: a level takes two, and eight are round it
abbrev pub depth_for : ℕ → ℕ
depth_for limit = 2 * min limit most_levels + 8

-- what the value says in which no object has a key twice; else the first such key is refused
abbrev pub strictly : {T : Type 0} → (Json → Said T) → Json → Said T
strictly said j = and_then (λ u. said j) (keys_said j)

-- the text is JSON that nests no deeper, in which no object has a key twice, and says this
abbrev pub Says : {T : Type 0} → ℕ → Text → (Json → Said T) → T → Type 0
Says depth text said t = IsSomeAnd (document_within depth text) (λ j. strictly said j ≡ Ok t)

-- the text is no JSON; or an object in it has a key twice; or memory ran out
abbrev pub IsUnread : Text → PolicyJsonError → Type 0
IsUnread text errors.Syntax = document text ≡ None
IsUnread text errors.DuplicateKey = IsSomeAnd (document text) (λ j. ¬ HasUniqueKeys j)
IsUnread text (errors.Refused path reason) = ⊥
IsUnread text (errors.Memory error) = ⊤

-- the text is no JSON, or nests deeper; or an object in it has a key twice, the first of which is refused; or memory ran out
abbrev pub IsUnreadWithin : ℕ → Text → PolicyJsonError → Type 0
IsUnreadWithin depth text errors.Syntax = document_within depth text ≡ None
IsUnreadWithin depth text errors.DuplicateKey = ⊥
IsUnreadWithin depth text (errors.Refused path reason) =
    IsSomeAnd (document_within depth text) (λ j. keys_said j ≡ Err (record { path = path_view path; reason = reason }))
IsUnreadWithin depth text (errors.Memory error) = ⊤

-- the same, or the text is JSON and says nothing, for this reason
abbrev pub IsTextRefusal : {T : Type 0} → ℕ → Text → (Json → Said T) → PolicyJsonError → Type 0
IsTextRefusal depth text said errors.Syntax = document_within depth text ≡ None
IsTextRefusal depth text said errors.DuplicateKey = ⊥
IsTextRefusal depth text said (errors.Refused path reason) =
    IsSomeAnd (document_within depth text) (λ j. strictly said j ≡ Err (record { path = path_view path; reason = reason }))
IsTextRefusal depth text said (errors.Memory error) = ⊤
