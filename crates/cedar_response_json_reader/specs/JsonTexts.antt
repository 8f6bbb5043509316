-- What the JSON texts of responses say.
use Rattle.std.specs.Prelude.{◌≡◌, ◌⊎◌, ⊤, ℕ, None, Ok, IsSomeAnd}
use Rattle.json.specs.Json.{Json}
use Rattle.json.specs.Strict.{HasUniqueKeys}
use Rattle.cedar_model.specs.Terms.{Text}
use Rattle.cedar_policy_json_reader.specs.JsonTexts.{document_within}
use Rattle.cedar_policy_json_reader.specs.Repeats.{keys_said}
use Rattle.cedar_response_json_reader.specs.declared.errors.ResponseJsonError.{ResponseJsonError}
use Rattle.cedar_response_json_reader.specs.declared.errors.ResponseJsonError.TheVariants as errors
use Rattle.cedar_response_json_reader.specs.Refusals.{IsRefusal, of_policies}

-- the text is JSON that nests no deeper, in which no object has a key twice, and this holds of it
abbrev pub SaysSo : ℕ → Text → (Json → Type 0) → Type 0
SaysSo depth text holds = IsSomeAnd (document_within depth text) (λ j. HasUniqueKeys j × holds j)

-- an object in the value has a key twice, and the first such key is refused; or else this is why nothing is read of it
abbrev pub IsRefusedOf : (Json → ResponseJsonError → Type 0) → ResponseJsonError → Json → Type 0
IsRefusedOf why e j = IsRefusal (of_policies (keys_said j)) e ⊎ ((keys_said j ≡ Ok tt) × why j e)

-- the text is no JSON, or nests deeper; or its value is refused; or memory ran out
abbrev pub IsTextRefusal : ℕ → Text → (Json → ResponseJsonError → Type 0) → ResponseJsonError → Type 0
IsTextRefusal depth text why errors.Syntax = document_within depth text ≡ None
IsTextRefusal depth text why (errors.Refused path reason) =
    IsSomeAnd (document_within depth text) (IsRefusedOf why (errors.Refused path reason))
IsTextRefusal depth text why (errors.Memory error) = ⊤
