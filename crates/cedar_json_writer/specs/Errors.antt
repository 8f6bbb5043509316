-- The errors of policies in JSON.
use Rattle.std.specs.Prelude.{◌≡◌, List, [], ◌∷◌, ◌++◌, codes}
use Rattle.json.specs.Json.{Json, string, array}
use Rattle.json.specs.Value.{items_of}
use Rattle.cedar_model.specs.Terms.{Text}
use Rattle.cedar_model.specs.Failures.{Failure, entity_is_missing, entity_attribute_is_missing}
use Rattle.cedar_model.specs.Failures.{record_attribute_is_missing, function_is_missing, type_is_wrong}
use Rattle.cedar_model.specs.Failures.{arguments_are_miscounted, binary_overflow, unary_overflow, slot_is_unlinked}
use Rattle.cedar_model.specs.Failures.{function_has_failed, residual_is_left, recursion_limit, out_of_memory}
use Rattle.cedar_model.specs.Failures.{memory_is_wrapped}
use Rattle.cedar_errors.specs.Texts.{type_error_text}
use Rattle.cedar_json_writer.specs.Texts.{object_of}

-- the text is what an error of this kind says: of a type error its text, and of another error any
abbrev pub Says : Failure → Text → Type 0
Says (entity_is_missing e) t = Unit {0}
Says (entity_attribute_is_missing e k was other available total) t = Unit {0}
Says (record_attribute_is_missing k available total) t = Unit {0}
Says (function_is_missing f) t = Unit {0}
Says (type_is_wrong expected others actual) t = t ≡ type_error_text expected others actual
Says (arguments_are_miscounted f expected actual) t = Unit {0}
Says (binary_overflow op v w) t = Unit {0}
Says (unary_overflow op v) t = Unit {0}
Says (slot_is_unlinked s) t = Unit {0}
Says (function_has_failed extension message) t = Unit {0}
Says (residual_is_left u) t = Unit {0}
Says recursion_limit t = Unit {0}
Says out_of_memory t = Unit {0}
Says memory_is_wrapped t = Unit {0}

-- the id of the policy that erred, and what its error says
abbrev pub error_members : Text → Text → List (Text × Json)
error_members id message = (codes "policyId", string id) ∷ (codes "message", string message) ∷ []

-- what an error says stands at `message` behind the members before
abbrev pub AddsMessage : Failure → List (Text × Json) → List (Text × Json) → Type 0
AddsMessage f before after =
    (message : Text) × Says f message × (after ≡ before ++ (codes "message", string message) ∷ [])

-- the members of an error stand behind those before
abbrev pub AddsError : Text × Failure → List (Text × Json) → List (Text × Json) → Type 0
AddsError e before after = (message : Text) × Says e.1 message × (after ≡ before ++ error_members e.0 message)

-- the object of an error
abbrev pub IsErrorJson : Text × Failure → Json → Type 0
IsErrorJson e j = (message : Text) × Says e.1 message × (j ≡ object_of (error_members e.0 message))

-- these values are those of the errors, in order
abbrev pub AreEachError : List (Text × Failure) → List Json → Type 0
AreEachError [] [] = Unit {0}
AreEachError [] (j ∷ js) = ⊥
AreEachError (e ∷ es) [] = ⊥
AreEachError (e ∷ es) (j ∷ js) = IsErrorJson e j × AreEachError es js

-- the array of the errors, in order
abbrev pub AreErrorsJson : List (Text × Failure) → Json → Type 0
AreErrorsJson es j = (js : List Json) × AreEachError es js × (j ≡ array (items_of js))

-- that array stands at `errors` behind the members before
abbrev pub AddsErrors : List (Text × Failure) → List (Text × Json) → List (Text × Json) → Type 0
AddsErrors es before after = (j : Json) × AreErrorsJson es j × (after ≡ before ++ (codes "errors", j) ∷ [])
