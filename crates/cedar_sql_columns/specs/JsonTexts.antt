-- What JSON texts say.
use Rattle.std.specs.Prelude.{◌≡◌, ⊤, None, Ok, Err, IsSomeAnd}
use Rattle.json.specs.Json.{Json, document}
use Rattle.json.specs.Strict.{HasUniqueKeys}
use Rattle.cedar_model.specs.Terms.{Text}
use Rattle.cedar_sql_columns.specs.declared.errors.ColumnsError.{ColumnsError}
use Rattle.cedar_sql_columns.specs.declared.errors.ColumnsError.TheVariants as errors
use Rattle.cedar_sql_columns.specs.Paths.{path_view}
use Rattle.cedar_sql_columns.specs.Refusals.{Said}

-- the text is JSON in which no object has a key twice, and says this
abbrev pub Says : {T : Type 0} → Text → (Json → Said T) → T → Type 0
Says text said t = IsSomeAnd (document text) (λ j. HasUniqueKeys j × (said j ≡ Ok t))

-- the text is no JSON; or an object in it has a key twice; or memory ran out
abbrev pub IsUnread : Text → ColumnsError → Type 0
IsUnread text errors.Syntax = document text ≡ None
IsUnread text errors.DuplicateKey = IsSomeAnd (document text) (λ j. ¬ HasUniqueKeys j)
IsUnread text (errors.Refused path reason) = ⊥
IsUnread text (errors.Memory error) = ⊤

-- the same, or the text is JSON and says nothing, for this reason
abbrev pub IsTextRefusal : {T : Type 0} → Text → (Json → Said T) → ColumnsError → Type 0
IsTextRefusal text said errors.Syntax = document text ≡ None
IsTextRefusal text said errors.DuplicateKey = IsSomeAnd (document text) (λ j. ¬ HasUniqueKeys j)
IsTextRefusal text said (errors.Refused path reason) =
    IsSomeAnd (document text) (λ j. said j ≡ Err (record { path = path_view path; reason = reason }))
IsTextRefusal text said (errors.Memory error) = ⊤
