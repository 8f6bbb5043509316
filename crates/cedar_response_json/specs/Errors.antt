-- What is told of errors.
use Rattle.std.specs.Prelude.{◌≡◌, List, [], ◌∷◌, codes}
use Rattle.json.specs.Json.{Json, string, array}
use Rattle.json.specs.Value.{items_of}
use Rattle.cedar_model.specs.Terms.{Text}
use Rattle.cedar_model.specs.Failures.{Failure, entity_is_missing, entity_attribute_is_missing}
use Rattle.cedar_model.specs.Failures.{record_attribute_is_missing, function_is_missing, type_is_wrong}
use Rattle.cedar_model.specs.Failures.{arguments_are_miscounted, binary_overflow, unary_overflow, slot_is_unlinked}
use Rattle.cedar_model.specs.Failures.{function_has_failed, residual_is_left, recursion_limit, out_of_memory}
use Rattle.cedar_model.specs.Failures.{memory_is_wrapped}
use Rattle.cedar_policy_json_writer.specs.Objects.{three_members}
use Rattle.cedar_json_writer.specs.declared.tree.JsonValue.{JsonValue}
use Rattle.cedar_json_writer.specs.Trees.{json_view}

-- the kind of an error; where a function of an extension failed, the extension's name
abbrev pub kind_word : Failure → Text
kind_word (entity_is_missing e) = codes "entityDoesNotExist"
kind_word (entity_attribute_is_missing e k was other available total) = codes "entityAttributeDoesNotExist"
kind_word (record_attribute_is_missing k available total) = codes "recordAttributeDoesNotExist"
kind_word (function_is_missing f) = codes "functionDoesNotExist"
kind_word (type_is_wrong expected others actual) = codes "typeError"
kind_word (arguments_are_miscounted f expected actual) = codes "wrongNumberOfArguments"
kind_word (binary_overflow op v w) = codes "integerOverflow"
kind_word (unary_overflow op v) = codes "integerOverflow"
kind_word (slot_is_unlinked s) = codes "unlinkedSlot"
kind_word (function_has_failed extension message) = extension
kind_word (residual_is_left u) = codes "residual"
kind_word recursion_limit = codes "recursionLimit"
kind_word out_of_memory = codes "outOfMemory"
kind_word memory_is_wrapped = codes "functionDoesNotExist"

-- the text is what an error says: where a function failed, the function's own message, and else any
abbrev pub Says : Failure → Text → Type 0
Says (entity_is_missing e) t = Unit {0}
Says (entity_attribute_is_missing e k was other available total) t = Unit {0}
Says (record_attribute_is_missing k available total) t = Unit {0}
Says (function_is_missing f) t = Unit {0}
Says (type_is_wrong expected others actual) t = Unit {0}
Says (arguments_are_miscounted f expected actual) t = Unit {0}
Says (binary_overflow op v w) t = Unit {0}
Says (unary_overflow op v) t = Unit {0}
Says (slot_is_unlinked s) t = Unit {0}
Says (function_has_failed extension message) t = t ≡ message
Says (residual_is_left u) t = Unit {0}
Says recursion_limit t = Unit {0}
Says out_of_memory t = Unit {0}
Says memory_is_wrapped t = Unit {0}

-- an error of this policy, of this kind, that says this
abbrev pub told_json : Text → Text → Text → Json
told_json id kind message =
    three_members (codes "policyId") (string id) (codes "kind") (string kind) (codes "message") (string message)

-- so it is told, whatever it says
abbrev pub ToldAs : Text → Text → JsonValue → Type 0
ToldAs id kind j = (message : Text) × (json_view j ≡ told_json id kind message)

-- an error is told by its policy, its kind and what it says
abbrev pub IsErrorJson : Text × Failure → Json → Type 0
IsErrorJson e j = (message : Text) × Says e.1 message × (j ≡ told_json e.0 (kind_word e.1) message)

-- these values are those of the errors, in order
abbrev pub AreEachError : List (Text × Failure) → List Json → Type 0
AreEachError [] [] = Unit {0}
AreEachError [] (j ∷ js) = ⊥
AreEachError (e ∷ es) [] = ⊥
AreEachError (e ∷ es) (j ∷ js) = IsErrorJson e j × AreEachError es js

-- the array of the errors, in order
abbrev pub AreErrorsJson : List (Text × Failure) → Json → Type 0
AreErrorsJson es j = (js : List Json) × AreEachError es js × (j ≡ array (items_of js))
