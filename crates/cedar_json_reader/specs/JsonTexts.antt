-- What JSON texts say.
use Rattle.std.specs.Prelude.{◌≡◌, ⊤, None, Ok, Err, IsSomeAnd}
use Rattle.json.specs.Json.{Json, document}
use Rattle.json.specs.Strict.{HasUniqueKeys}
use Rattle.cedar_model.specs.Terms.{Text}
use Rattle.cedar_json_reader.specs.declared.errors.JsonError.{JsonError}
use Rattle.cedar_json_reader.specs.declared.errors.JsonError.TheVariants as errors
use Rattle.cedar_json_reader.specs.Paths.{path_view}
use Rattle.cedar_json_reader.specs.Refusals.{Said}

-- the text is JSON in which no object has a key twice, and says this
abbrev pub Says : {T : Type 0} → Text → (Json → Said T) → T → Type 0
Says text said t = IsSomeAnd (document text) (λ j. HasUniqueKeys j × (said j ≡ Ok t))

-- the text is no JSON; or an object in it has a key twice; or memory ran out
abbrev pub IsUnread : Text → JsonError → Type 0
IsUnread text errors.Syntax = document text ≡ None
IsUnread text errors.DuplicateKey = IsSomeAnd (document text) (λ j. ¬ HasUniqueKeys j)
IsUnread text (errors.Refused path reason) = ⊥
IsUnread text (errors.Evaluation path error) = ⊥
IsUnread text (errors.Memory error) = ⊤

-- the same, or the text is JSON and says nothing, for this reason
abbrev pub IsTextRefusal : {T : Type 0} → Text → (Json → Said T) → JsonError → Type 0
IsTextRefusal text said errors.Syntax = document text ≡ None
IsTextRefusal text said errors.DuplicateKey = IsSomeAnd (document text) (λ j. ¬ HasUniqueKeys j)
IsTextRefusal text said (errors.Refused path reason) =
    IsSomeAnd (document text) (λ j. said j ≡ Err (record { path = path_view path; reason = reason }))
IsTextRefusal text said (errors.Evaluation path error) = ⊥
IsTextRefusal text said (errors.Memory error) = ⊤

-- the text is JSON in which no object has a key twice, and this is so of its value
abbrev pub SaysSo : Text → (Json → Type 0) → Type 0
SaysSo text P = IsSomeAnd (document text) (λ j. HasUniqueKeys j × P j)

-- the text is no JSON, or an object in it has a key twice; or the error is so of its value; or memory ran out
abbrev pub IsTextError : Text → (Json → JsonError → Type 0) → JsonError → Type 0
IsTextError text R errors.Syntax = document text ≡ None
IsTextError text R errors.DuplicateKey = IsSomeAnd (document text) (λ j. ¬ HasUniqueKeys j)
IsTextError text R (errors.Refused path reason) = IsSomeAnd (document text) (λ j. R j (errors.Refused path reason))
IsTextError text R (errors.Evaluation path error) = IsSomeAnd (document text) (λ j. R j (errors.Evaluation path error))
IsTextError text R (errors.Memory error) = ⊤
