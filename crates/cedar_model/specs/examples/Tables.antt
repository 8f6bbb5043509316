-- Worked examples: a row of the tables of type errors, of residuals and of operators' errors each, where `Rows` has
-- none.
use Rattle.std.specs.Prelude.{◌≡◌, pos, negsuc, Bool, true, false, cond, [], ◌∷◌, Some, None, codes}
use Rattle.std.specs.Prelude.{Err}
use Rattle.cedar_model.specs.Terms.{Text, EntityName, long_literal, bool_type, long_type, string_type, set_type}
use Rattle.cedar_model.specs.Terms.{record_type, extension_type, not_operator, neg_operator, is_empty_operator}
use Rattle.cedar_model.specs.Terms.{less_operator, less_eq_operator, add_operator, sub_operator, mul_operator}
use Rattle.cedar_model.specs.Terms.{contains_operator, contains_any_operator, get_tag_operator, has_tag_operator}
use Rattle.cedar_model.specs.Terms.{Term, literal, unknown, if_then_else, both, either, unary, binary, call}
use Rattle.cedar_model.specs.Terms.{get_attribute, has_attribute, extended_has, is_of_type, set_of, record_of}
use Rattle.cedar_model.specs.Terms.{no_terms, fields_of}
use Rattle.cedar_model.specs.Values.{plain_represented, extension_represented}
use Rattle.cedar_model.specs.Outcomes.{text_eq, entity_eq}
use Rattle.cedar_model.specs.World.{Extensions}
use Rattle.cedar_model.specs.Failures.{entity_is_missing, entity_attribute_is_missing, record_attribute_is_missing}
use Rattle.cedar_model.specs.Failures.{type_is_wrong, binary_overflow, function_has_failed, PartialValue, value}
use Rattle.cedar_model.specs.Failures.{any_entity, Answer, fails, answers_value, answers_residual, answers_bool}
use Rattle.cedar_model.specs.Settings.{StoredEntity, shallow, Setting, missing_entity}
use Rattle.cedar_model.specs.Rules.{StoredCalls, Allows}
use Rattle.cedar_model.specs.Agreement.{no_slots}
use Rattle.cedar_model.specs.Authorizations.{evaluated}
use Rattle.cedar_model.specs.examples.Setting.{entity_of_type, user, long, text, entity, bool, x, example_entity, some_facts}
use Rattle.cedar_model.specs.examples.Setting.{some_map, some_setting}

-- ---- functions without arguments: `one` and `two` answer values of the overloaded type T, `other` one of V, `ask`
-- an unknown that the map names, `fail` an error

abbrev pub table : Text → Answer
table f =
    cond (text_eq f (codes "one")) (answers_value (extension_represented (codes "T") (1 ∷
    []) (codes "one") no_terms)) (cond (text_eq f (codes "two")) (answers_value (extension_represented (codes "T")
    (2 ∷ []) (codes "two") no_terms)) (cond (text_eq f (codes "other"))
    (answers_value (extension_represented (codes "V") [] (codes "other") no_terms))
    (cond (text_eq f (codes "ask")) (answers_residual (unknown (codes "q") (Some long_type)))
    (fails (function_has_failed (codes "ext") (codes "no"))))))

abbrev pub table_calls : StoredCalls
table_calls f vs a = a ≡ table f

abbrev pub table_extensions : Extensions
table_extensions = record { arity = λ f. Some 0; overloaded = codes "T" ∷ [] }

abbrev pub one_call : Term
one_call = call (codes "one") no_terms

abbrev pub two_call : Term
two_call = call (codes "two") no_terms

abbrev pub other_call : Term
other_call = call (codes "other") no_terms

abbrev pub y : Term
y = unknown (codes "y") None

-- ---- an entity with seven attributes and no tag, and one that the store lacks

abbrev pub zero_attribute : Text → Text × PartialValue
zero_attribute k = (k, value (plain_represented (long_literal (pos 0))))

abbrev pub of_seven : EntityName
of_seven = entity_of_type (codes "E") (codes "seven")

abbrev pub seven_facts : StoredEntity
seven_facts = record {
  attributes =
      zero_attribute (codes "a") ∷ zero_attribute (codes "b") ∷ zero_attribute (codes "c") ∷
      zero_attribute (codes "d") ∷ zero_attribute (codes "e") ∷ zero_attribute (codes "f") ∷
      zero_attribute (codes "g") ∷ [];
  tags = [];
  ancestors = [];
}

abbrev pub missing : EntityName
missing = user (codes "missing")

abbrev pub table_setting : Bool → Setting
table_setting is_partial = record {
  request = (some_setting is_partial).request;
  store =
      record {
        entity = λ e. cond (entity_eq e example_entity) (Some some_facts) (cond (entity_eq e of_seven)
            (Some seven_facts) None);
        is_partial = is_partial;
      };
  map = λ n. cond (text_eq n (codes "q")) (Some (plain_represented (long_literal (pos 3)))) (some_map n);
  slots = no_slots;
  extensions = table_extensions;
  resolution = shallow;
}

-- what is allowed, with a concrete or a partial store
abbrev pub Shown : Bool → Term → Answer → Type 0
Shown is_partial t a = Allows (table_setting is_partial) table_calls t a

-- ---- type errors, by the place of the operand

-- a guard
abbrev pub GuardExpectsBool : Type 0
GuardExpectsBool =
    Shown false (if_then_else (long 1) (bool true) (bool false)) (fails (type_is_wrong bool_type [] long_type))

-- `!`
abbrev pub NotExpectsBool : Type 0
NotExpectsBool = Shown false (unary not_operator (long 1)) (fails (type_is_wrong bool_type [] long_type))

-- the left of `&&`, also beside a residual
abbrev pub AndLeftExpectsBool : Type 0
AndLeftExpectsBool = Shown false (both (long 1) x) (fails (type_is_wrong bool_type [] long_type))

-- the right of `&&`
abbrev pub AndRightExpectsBool : Type 0
AndRightExpectsBool = Shown false (both (bool true) (long 1)) (fails (type_is_wrong bool_type [] long_type))

-- the left of `||`
abbrev pub OrLeftExpectsBool : Type 0
OrLeftExpectsBool = Shown false (either (long 1) x) (fails (type_is_wrong bool_type [] long_type))

-- the right of `||`
abbrev pub OrRightExpectsBool : Type 0
OrRightExpectsBool = Shown false (either (bool false) (long 1)) (fails (type_is_wrong bool_type [] long_type))

-- negation
abbrev pub NegExpectsLong : Type 0
NegExpectsLong = Shown false (unary neg_operator (text (codes "a"))) (fails (type_is_wrong long_type [] string_type))

-- the left of `+`
abbrev pub AddExpectsLongLeft : Type 0
AddExpectsLongLeft =
    Shown false (binary add_operator (text (codes "a")) (bool true)) (fails (type_is_wrong long_type [] string_type))

-- the right of `-`
abbrev pub SubExpectsLongRight : Type 0
SubExpectsLongRight =
    Shown false (binary sub_operator (long 1) (text (codes "a"))) (fails (type_is_wrong long_type [] string_type))

-- the left of `*`
abbrev pub MulExpectsLongLeft : Type 0
MulExpectsLongLeft =
    Shown false (binary mul_operator (text (codes "a")) (long 1)) (fails (type_is_wrong long_type [] string_type))

-- `<=`, the left a long
abbrev pub LessEqBesideLong : Type 0
LessEqBesideLong =
    Shown false (binary less_eq_operator (long 1) (text (codes "a"))) (fails (type_is_wrong long_type [] string_type))

-- `<`, the right a long, the left an overloaded extension value
abbrev pub ExtensionBesideLong : Type 0
ExtensionBesideLong =
    Shown false (binary less_operator one_call (long 1))
    (fails (type_is_wrong long_type [] (extension_type (codes "T"))))

-- `<`, the left an overloaded extension value
abbrev pub OverloadedLeft : Type 0
OverloadedLeft =
    Shown false (binary less_operator one_call (text (codes "a")))
    (fails (type_is_wrong (extension_type (codes "T")) [] string_type))

-- `<`, the right an overloaded extension value
abbrev pub OverloadedRight : Type 0
OverloadedRight =
    Shown false (binary less_operator (text (codes "a")) one_call)
    (fails (type_is_wrong (extension_type (codes "T")) [] string_type))

-- `<`, of two values of an extension type that is not overloaded
abbrev pub OtherExtensions : Type 0
OtherExtensions =
    Shown false (binary less_operator other_call other_call)
    (fails (type_is_wrong long_type (extension_type (codes "T") ∷ []) (extension_type (codes "V"))))

-- the left of `contains`
abbrev pub ContainsExpectsSet : Type 0
ContainsExpectsSet =
    Shown false (binary contains_operator (long 1) (long 1)) (fails (type_is_wrong set_type [] long_type))

-- the left of `containsAny` before its right
abbrev pub ContainsAnyLeftFirst : Type 0
ContainsAnyLeftFirst =
    Shown false (binary contains_any_operator (long 1) (text (codes "a")))
    (fails (type_is_wrong set_type [] long_type))

-- the right of `containsAny`
abbrev pub ContainsAnyRight : Type 0
ContainsAnyRight =
    Shown false (binary contains_any_operator (set_of no_terms) (long 1))
    (fails (type_is_wrong set_type [] long_type))

-- `isEmpty`
abbrev pub IsEmptyExpectsSet : Type 0
IsEmptyExpectsSet = Shown false (unary is_empty_operator (long 1)) (fails (type_is_wrong set_type [] long_type))

-- the left of `getTag`, before its right
abbrev pub GetTagExpectsEntity : Type 0
GetTagExpectsEntity =
    Shown false (binary get_tag_operator (long 1) (bool true)) (fails (type_is_wrong any_entity [] long_type))

-- the left of `hasTag`
abbrev pub HasTagExpectsEntity : Type 0
HasTagExpectsEntity =
    Shown false (binary has_tag_operator (long 1) (text (codes "t"))) (fails (type_is_wrong any_entity [] long_type))

-- `is`
abbrev pub IsExpectsEntity : Type 0
IsExpectsEntity = Shown false (is_of_type (long 1) (codes "E")) (fails (type_is_wrong any_entity [] long_type))

-- the right of `getTag`
abbrev pub GetTagExpectsText : Type 0
GetTagExpectsText =
    Shown false (binary get_tag_operator (entity example_entity) (long 1))
    (fails (type_is_wrong string_type [] long_type))

-- the right of `hasTag`, before the store is read
abbrev pub HasTagExpectsText : Type 0
HasTagExpectsText =
    Shown true (binary has_tag_operator (entity missing) (long 1)) (fails (type_is_wrong string_type [] long_type))

-- an attribute
abbrev pub AttributeOfLong : Type 0
AttributeOfLong =
    Shown false (get_attribute (long 1) (codes "a")) (fails (type_is_wrong record_type (any_entity ∷ []) long_type))

-- `has`
abbrev pub HasOfLong : Type 0
HasOfLong =
    Shown false (has_attribute (long 1) (codes "a")) (fails (type_is_wrong record_type (any_entity ∷ []) long_type))

-- a policy's value
abbrev pub PolicyExpectsBool : Type 0
PolicyExpectsBool =
    evaluated (answers_value (plain_represented (long_literal (pos 1)))) ≡ Err (type_is_wrong bool_type [] long_type)

-- ---- residuals

-- an operator on a residual
abbrev pub UnaryKept : Type 0
UnaryKept = Shown false (unary not_operator x) (answers_residual (unary not_operator x))

-- `false || r`
abbrev pub FalseOrKept : Type 0
FalseOrKept = Shown false (either (bool false) x) (answers_residual (either (bool false) x))

-- a residual left of a value
abbrev pub ResidualBesideValue : Type 0
ResidualBesideValue = Shown false (binary add_operator x (long 1)) (answers_residual (binary add_operator x (long 1)))

-- two residuals
abbrev pub ResidualBesideResidual : Type 0
ResidualBesideResidual = Shown false (binary less_operator x y) (answers_residual (binary less_operator x y))

-- a tag of an entity that a partial store lacks
abbrev pub TagOfMissingPartial : Type 0
TagOfMissingPartial =
    Shown true (binary get_tag_operator (entity missing) (text (codes "t")))
    (answers_residual (binary get_tag_operator (missing_entity missing) (text (codes "t"))))

-- whether it has a tag
abbrev pub HasTagOfMissingPartial : Type 0
HasTagOfMissingPartial =
    Shown true (binary has_tag_operator (entity missing) (text (codes "t")))
    (answers_residual (binary has_tag_operator (missing_entity missing) (text (codes "t"))))

-- an attribute of it
abbrev pub AttributeOfMissingPartial : Type 0
AttributeOfMissingPartial =
    Shown true (get_attribute (entity missing) (codes "a")) (answers_residual (get_attribute (missing_entity missing)
    (codes "a")))

-- whether it has an attribute
abbrev pub HasOfMissingPartial : Type 0
HasOfMissingPartial =
    Shown true (has_attribute (entity missing) (codes "a")) (answers_residual (has_attribute (missing_entity missing)
    (codes "a")))

-- an attribute of a residual that is no record
abbrev pub AttributeOfResidual : Type 0
AttributeOfResidual = Shown false (get_attribute x (codes "a")) (answers_residual (get_attribute x (codes "a")))

-- a key that a record that is not projectable lacks
abbrev pub KeyNotInOtherRecord : Type 0
KeyNotInOtherRecord =
    Shown false (get_attribute (record_of (fields_of ((codes "a", binary add_operator x (long 1)) ∷
    []))) (codes "b")) (fails (record_attribute_is_missing (codes "b") (codes "a" ∷ []) 1))

-- an extended `has` of a residual, also of a projectable record
abbrev pub PathOfResidual : Type 0
PathOfResidual =
    Shown false (extended_has (record_of (fields_of ((codes "a", x) ∷ []))) (codes "a") (codes "b" ∷
    [])) (answers_residual (extended_has (record_of (fields_of ((codes "a", x) ∷ []))) (codes "a") (codes "b" ∷ [])))

-- a record with a residual part has every part as an expression
abbrev pub RecordWithUnknown : Type 0
RecordWithUnknown =
    Shown false (record_of (fields_of ((codes "a", binary add_operator (long 1) (long 1)) ∷ (codes "b", x) ∷
    []))) (answers_residual (record_of (fields_of ((codes "a", long 2) ∷ (codes "b", x) ∷ []))))

-- a function that answers an unknown, which does not go through the map
abbrev pub FunctionAsks : Type 0
FunctionAsks = Shown false (call (codes "ask") no_terms) (answers_residual (unknown (codes "q") (Some long_type)))

-- ---- errors with their fields, and comparisons of extension values

-- a tag of an entity that is not there
abbrev pub TagOfMissing : Type 0
TagOfMissing =
    Shown false (binary get_tag_operator (entity missing) (text (codes "t"))) (fails (entity_is_missing missing))

-- of seven attributes five names are shown
abbrev pub FiveNamesShown : Type 0
FiveNamesShown =
    Shown false (get_attribute (entity of_seven) (codes "z"))
    (fails (entity_attribute_is_missing of_seven (codes "z") true false (codes "a" ∷ codes "b" ∷ codes "c" ∷
    codes "d" ∷ codes "e" ∷ []) 7))

-- a tag that is missing where an attribute has its name
abbrev pub OtherKindShown : Type 0
OtherKindShown =
    Shown false (binary get_tag_operator (entity of_seven) (text (codes "a")))
    (fails (entity_attribute_is_missing of_seven (codes "a") false true [] 0))

-- a key that a record lacks
abbrev pub KeyMissing : Type 0
KeyMissing =
    Shown false (get_attribute (record_of (fields_of ((codes "a", long 1) ∷
    []))) (codes "b")) (fails (record_attribute_is_missing (codes "b") (codes "a" ∷ []) 1))

-- a difference below the least long
abbrev pub SubOverflows : Type 0
SubOverflows =
    Shown false (binary sub_operator (literal (long_literal (negsuc 9223372036854775807))) (long 1))
    (fails (binary_overflow sub_operator (plain_represented (long_literal (negsuc 9223372036854775807)))
    (plain_represented (long_literal (pos 1)))))

-- a product above the greatest long
abbrev pub MulOverflows : Type 0
MulOverflows =
    Shown false (binary mul_operator (long 9223372036854775807) (long 2))
    (fails (binary_overflow mul_operator (plain_represented (long_literal (pos 9223372036854775807)))
    (plain_represented (long_literal (pos 2)))))

-- a function that fails
abbrev pub FunctionFails : Type 0
FunctionFails = Shown false (call (codes "fail") no_terms) (fails (function_has_failed (codes "ext") (codes "no")))

-- overloaded extension values by their keys
abbrev pub ExtensionsCompared : Type 0
ExtensionsCompared = Shown false (binary less_operator one_call two_call) (answers_bool true)

-- and the other way
abbrev pub ExtensionsComparedBack : Type 0
ExtensionsComparedBack = Shown false (binary less_eq_operator two_call one_call) (answers_bool false)
