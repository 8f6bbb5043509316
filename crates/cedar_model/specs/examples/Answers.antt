-- Worked examples: what an expression may answer, with the setting of `Examples`.
use Rattle.std.specs.Prelude.{pos, negsuc, Bool, true, false, [], ◌∷◌, Some, None, codes}
use Rattle.cedar_model.specs.Terms.{long_literal, entity_literal, principal, long_type, string_type, set_type}
use Rattle.cedar_model.specs.Terms.{record_type, entity_type, extension_type, principal_slot, neg_operator}
use Rattle.cedar_model.specs.Terms.{is_empty_operator, eq_operator, less_operator, add_operator, in_operator}
use Rattle.cedar_model.specs.Terms.{contains_all_operator, get_tag_operator, has_tag_operator, character, wildcard}
use Rattle.cedar_model.specs.Terms.{Term, literal, variable, slot, unknown, if_then_else, both, either, unary, binary}
use Rattle.cedar_model.specs.Terms.{call, get_attribute, has_attribute, extended_has, like, is_of_type, set_of}
use Rattle.cedar_model.specs.Terms.{record_of, terms_of, fields_of}
use Rattle.cedar_model.specs.Values.{plain_represented, set_represented, no_represented, one_represented}
use Rattle.cedar_model.specs.Failures.{entity_is_missing, entity_attribute_is_missing, record_attribute_is_missing}
use Rattle.cedar_model.specs.Failures.{function_is_missing, type_is_wrong, arguments_are_miscounted, binary_overflow}
use Rattle.cedar_model.specs.Failures.{unary_overflow, slot_is_unlinked, Answer, fails, answers_value, answers_residual}
use Rattle.cedar_model.specs.Failures.{answers_bool, any_entity}
use Rattle.cedar_model.specs.Settings.{missing_entity}
use Rattle.cedar_model.specs.Rules.{Allows}
use Rattle.cedar_model.specs.examples.Setting.{entity_of_type, user, long, text, entity, bool, x, x_of, example_entity, parent}
use Rattle.cedar_model.specs.examples.Setting.{some_setting, some_calls}

-- ---- what is allowed

-- with a concrete or a partial store
abbrev pub Allowed : Bool → Term → Answer → Type 0
Allowed is_partial t a = Allows (some_setting is_partial) some_calls t a

-- 9223372036854775807 + 1 overflows
abbrev pub OverflowAbove : Type 0
OverflowAbove =
    Allowed false (binary add_operator (long 9223372036854775807) (long 1))
    (fails (binary_overflow add_operator (plain_represented (long_literal (pos 9223372036854775807)))
    (plain_represented (long_literal (pos 1)))))

-- - of the least long overflows
abbrev pub OverflowBelow : Type 0
OverflowBelow =
    Allowed false (unary neg_operator (literal (long_literal (negsuc 9223372036854775807))))
    (fails (unary_overflow neg_operator (plain_represented (long_literal (negsuc 9223372036854775807)))))

-- in a record the first error is by the order of keys, whatever stands later
abbrev pub FirstErrorByKey : Type 0
FirstErrorByKey =
    Allowed false (record_of (fields_of
    ((codes "a", binary add_operator (long 9223372036854775807) (long 1)) ∷
    (codes "b", binary add_operator (long 1) (text (codes "a"))) ∷ [])))
    (fails (binary_overflow add_operator (plain_represented (long_literal (pos 9223372036854775807)))
    (plain_represented (long_literal (pos 1)))))

-- the left side errs first
abbrev pub LeftErrorFirst : Type 0
LeftErrorFirst =
    Allowed false (binary add_operator (binary add_operator (long 1) (text (codes "a")))
    (binary add_operator (long 9223372036854775807) (long 1))) (fails (type_is_wrong long_type [] string_type))

-- beside a long a long is expected
abbrev pub LessBesideLong : Type 0
LessBesideLong =
    Allowed false (binary less_operator (text (codes "a")) (long 1)) (fails (type_is_wrong long_type [] string_type))

-- else a long or an overloaded type is expected on the left
abbrev pub LessOfTexts : Type 0
LessOfTexts =
    Allowed false (binary less_operator (text (codes "a")) (text (codes "b")))
    (fails (type_is_wrong long_type (extension_type (codes "T") ∷ []) string_type))

-- containsAll expects sets, the left one first
abbrev pub ContainsAllOfLong : Type 0
ContainsAllOfLong =
    Allowed false (binary contains_all_operator (set_of (terms_of (long 1 ∷ text (codes "a") ∷ []))) (long 2))
    (fails (type_is_wrong set_type [] long_type))

-- a set has each element once, in order
abbrev pub SetOnce : Type 0
SetOnce =
    Allowed false (set_of (terms_of (long 2 ∷ long 1 ∷ long 2 ∷ [])))
    (answers_value (set_represented
    (one_represented (plain_represented (long_literal (pos 1)))
    (one_represented (plain_represented (long_literal (pos 2))) no_represented))))

-- an empty set is empty
abbrev pub EmptySet : Type 0
EmptySet = Allowed false (unary is_empty_operator (set_of (terms_of []))) (answers_bool true)

-- a known principal
abbrev pub KnownPrincipal : Type 0
KnownPrincipal =
    Allowed false (variable principal) (answers_value (plain_represented (entity_literal (user (codes "u")))))

-- a slot that is not reached
abbrev pub SlotNotReached : Type 0
SlotNotReached = Allowed false (both (bool false) (slot principal_slot)) (answers_bool false)

-- a slot without an entity
abbrev pub SlotUnlinked : Type 0
SlotUnlinked = Allowed false (slot principal_slot) (fails (slot_is_unlinked principal_slot))

-- an attribute of an entity that a concrete store lacks
abbrev pub MissingAttributeOf : Type 0
MissingAttributeOf =
    Allowed false (get_attribute (entity (entity_of_type (codes "E") (codes "none"))) (codes "f"))
    (fails (entity_is_missing (entity_of_type (codes "E") (codes "none"))))

-- which has no attribute
abbrev pub MissingHas : Type 0
MissingHas =
    Allowed false (has_attribute (entity (entity_of_type (codes "E") (codes "none"))) (codes "f")) (answers_bool false)

-- an attribute that is not there, with those that are
abbrev pub AttributeMissing : Type 0
AttributeMissing =
    Allowed false (get_attribute (entity example_entity) (codes "z"))
    (fails (entity_attribute_is_missing example_entity (codes "z") true false
    (codes "a" ∷ codes "child" ∷ codes "f" ∷ codes "g" ∷ []) 4))

-- a tag that is not there, where an attribute is
abbrev pub TagMissing : Type 0
TagMissing =
    Allowed false (binary get_tag_operator (entity example_entity) (text (codes "a")))
    (fails (entity_attribute_is_missing example_entity (codes "a") false true (codes "t" ∷ []) 1))

-- a stored tag is answered as it is stored, though the map names it
abbrev pub TagAsStored : Type 0
TagAsStored =
    Allowed false (binary get_tag_operator (entity example_entity) (text (codes "t")))
    (answers_residual (unknown (codes "v") None))

-- and it is there
abbrev pub HasTag : Type 0
HasTag = Allowed false (binary has_tag_operator (entity example_entity) (text (codes "t"))) (answers_bool true)

-- a stored attribute that is an unknown goes through the map
abbrev pub AttributeThroughMap : Type 0
AttributeThroughMap =
    Allowed false (get_attribute (entity example_entity) (codes "f"))
    (answers_value (plain_represented (long_literal (pos 1))))

-- another stored residual does not
abbrev pub AttributeAsStored : Type 0
AttributeAsStored =
    Allowed false (get_attribute (entity example_entity) (codes "g"))
    (answers_residual (set_of (terms_of (unknown (codes "u") None ∷ []))))

-- an entity is in its ancestors
abbrev pub InAncestor : Type 0
InAncestor = Allowed false (binary in_operator (entity example_entity) (entity parent)) (answers_bool true)

-- an entity that a concrete store lacks is in nothing but itself
abbrev pub InMissingConcrete : Type 0
InMissingConcrete =
    Allowed false (binary in_operator (entity (user (codes "eve"))) (entity parent)) (answers_bool false)

-- it is in itself
abbrev pub InItself : Type 0
InItself =
    Allowed false (binary in_operator (entity (user (codes "eve"))) (entity (user (codes "eve")))) (answers_bool true)

-- of a partial store it is unknown
abbrev pub InMissingPartial : Type 0
InMissingPartial =
    Allowed true (binary in_operator (entity (user (codes "eve"))) (entity parent))
    (answers_residual (binary in_operator (missing_entity (user (codes "eve"))) (entity parent)))

-- whatever stands right
abbrev pub InAnyRight : Type 0
InAnyRight =
    Allowed true (binary in_operator (entity (user (codes "eve"))) (long 3))
    (answers_residual (binary in_operator (missing_entity (user (codes "eve"))) (long 3)))

-- right of `in` stands an entity or a set
abbrev pub InALong : Type 0
InALong =
    Allowed false (binary in_operator (entity (user (codes "a"))) (long 3))
    (fails (type_is_wrong set_type (any_entity ∷ []) long_type))

-- a set of entities alone
abbrev pub InMixedSet : Type 0
InMixedSet =
    Allowed false (binary in_operator (entity (user (codes "a")))
    (set_of (terms_of (entity (user (codes "a")) ∷ long 1 ∷ [])))) (fails (type_is_wrong any_entity [] long_type))

-- left of `in` stands an entity
abbrev pub InFromALong : Type 0
InFromALong =
    Allowed false (binary in_operator (long 3) (entity (user (codes "a"))))
    (fails (type_is_wrong any_entity [] long_type))

-- an extended `has` that meets a residual keeps the attributes after it
abbrev pub PathMetByResidual : Type 0
PathMetByResidual =
    Allowed false (extended_has (entity example_entity) (codes "child") (codes "foo" ∷ codes "bar" ∷ []))
    (answers_residual (extended_has (unknown (codes "c") None) (codes "foo") (codes "bar" ∷ [])))

-- its last attribute is a presence check, also where it is residual
abbrev pub PathLastIsPresence : Type 0
PathLastIsPresence =
    Allowed false (extended_has (record_of (fields_of ((codes "b", entity example_entity) ∷ []))) (codes "b")
    (codes "g" ∷ [])) (answers_bool true)

-- and one that meets an entity which a partial store lacks
abbrev pub PathMissingPartial : Type 0
PathMissingPartial =
    Allowed true (extended_has (record_of (fields_of ((codes "a", entity (user (codes "w"))) ∷ []))) (codes "a")
    (codes "b" ∷ [])) (answers_residual (extended_has (missing_entity (user (codes "w"))) (codes "b") []))

-- it stops where an attribute is not there
abbrev pub PathStops : Type 0
PathStops =
    Allowed false (extended_has (record_of (fields_of ((codes "a", long 1) ∷ []))) (codes "b") (codes "c" ∷ []))
    (answers_bool false)

-- and errs at another value
abbrev pub PathOfLong : Type 0
PathOfLong =
    Allowed false (extended_has (record_of (fields_of ((codes "a", long 1) ∷ []))) (codes "a") (codes "b" ∷ []))
    (fails (type_is_wrong record_type (any_entity ∷ []) long_type))

-- an unknown that the map names, of the annotated type
abbrev pub MappedWithType : Type 0
MappedWithType =
    Allowed false (unknown (codes "u") (Some long_type)) (answers_value (plain_represented (long_literal (pos 1))))

-- and of another type
abbrev pub MappedWithOtherType : Type 0
MappedWithOtherType =
    Allowed false (unknown (codes "u") (Some string_type)) (fails (type_is_wrong string_type [] long_type))

-- `true && x` is kept
abbrev pub KeptBesideTrue : Type 0
KeptBesideTrue = Allowed false (both (bool true) x) (answers_residual (both (bool true) x))

-- `false && x` is false
abbrev pub FalseBesideUnknown : Type 0
FalseBesideUnknown = Allowed false (both (bool false) x) (answers_bool false)

-- `x || true` is kept
abbrev pub OrKeeps : Type 0
OrKeeps = Allowed false (either x (bool true)) (answers_residual (either x (bool true)))

-- beside an unknown an erring side is kept
abbrev pub BestEffortKeeps : Type 0
BestEffortKeeps =
    Allowed false (both x (binary add_operator (long 1) (text (codes "a"))))
    (answers_residual (both x (binary add_operator (long 1) (text (codes "a")))))

-- and another is evaluated
abbrev pub BestEffortSimplifies : Type 0
BestEffortSimplifies =
    Allowed false (both x (binary add_operator (long 1) (long 1))) (answers_residual (both x (long 2)))

-- a residual guard reads both branches
abbrev pub GuardKeeps : Type 0
GuardKeeps =
    Allowed false (if_then_else x (binary add_operator (long 1) (text (codes "a")))
    (binary add_operator (long 1) (long 1)))
    (answers_residual (if_then_else x (binary add_operator (long 1) (text (codes "a"))) (long 2)))

-- a value beside a residual becomes an expression
abbrev pub ValueBesideResidual : Type 0
ValueBesideResidual =
    Allowed false (binary add_operator (binary add_operator (long 1) (long 1)) x)
    (answers_residual (binary add_operator (long 2) x))

-- a residual left does not hide an error right
abbrev pub RightErrorShows : Type 0
RightErrorShows =
    Allowed false (binary add_operator x (binary add_operator (long 1) (text (codes "a"))))
    (fails (type_is_wrong long_type [] string_type))

-- `==` is false beside an unknown of another entity type
abbrev pub ApartByAnnotation : Type 0
ApartByAnnotation =
    Allowed false (binary eq_operator (entity (user (codes "a"))) (x_of (entity_type (codes "Group"))))
    (answers_bool false)

-- and kept beside one of its type
abbrev pub KeptByAnnotation : Type 0
KeptByAnnotation =
    Allowed false (binary eq_operator (entity (user (codes "a"))) (x_of (entity_type (codes "User"))))
    (answers_residual (binary eq_operator (entity (user (codes "a"))) (x_of (entity_type (codes "User")))))

-- or of none
abbrev pub KeptWithoutAnnotation : Type 0
KeptWithoutAnnotation =
    Allowed false (binary eq_operator (entity (user (codes "a"))) x)
    (answers_residual (binary eq_operator (entity (user (codes "a"))) x))

-- two unknowns of different entity types
abbrev pub UnknownsApart : Type 0
UnknownsApart =
    Allowed false (binary eq_operator (x_of (entity_type (codes "User"))) (x_of (entity_type (codes "Group"))))
    (answers_bool false)

-- `is` on an unknown that is annotated
abbrev pub IsByAnnotation : Type 0
IsByAnnotation = Allowed false (is_of_type (x_of (entity_type (codes "Group"))) (codes "Group")) (answers_bool true)

-- and on one that is not
abbrev pub IsTestKept : Type 0
IsTestKept = Allowed false (is_of_type x (codes "Group")) (answers_residual (is_of_type x (codes "Group")))

-- a part of a projectable record
abbrev pub Projected : Type 0
Projected =
    Allowed false (get_attribute (record_of (fields_of ((codes "a", x) ∷ (codes "b", long 1) ∷ []))) (codes "b"))
    (answers_value (plain_represented (long_literal (pos 1))))

-- is put through the map
abbrev pub ProjectedThroughMap : Type 0
ProjectedThroughMap =
    Allowed false (get_attribute (record_of (fields_of ((codes "a", x) ∷ (codes "b", unknown (codes "u") None) ∷ [])))
    (codes "b")) (answers_value (plain_represented (long_literal (pos 1))))

-- another record keeps it, since a sibling may err
abbrev pub NotProjected : Type 0
NotProjected =
    Allowed false (get_attribute (record_of
    (fields_of ((codes "a", binary add_operator x (text (codes "q"))) ∷ (codes "b", long 1) ∷ []))) (codes "b"))
    (answers_residual (get_attribute
    (record_of (fields_of ((codes "a", binary add_operator x (text (codes "q"))) ∷ (codes "b", long 1) ∷ [])))
    (codes "b")))

-- a key that is not there errs in any record
abbrev pub KeyNotThere : Type 0
KeyNotThere =
    Allowed false (get_attribute (record_of (fields_of ((codes "a", binary add_operator x (text (codes "q"))) ∷ [])))
    (codes "z")) (fails (record_attribute_is_missing (codes "z") (codes "a" ∷ []) 1))

-- `has` on a projectable record
abbrev pub HasInProjectable : Type 0
HasInProjectable =
    Allowed false (has_attribute (record_of (fields_of ((codes "a", x) ∷ []))) (codes "z")) (answers_bool false)

-- and on another
abbrev pub HasKept : Type 0
HasKept =
    Allowed false (has_attribute (record_of (fields_of ((codes "a", binary add_operator x (long 1)) ∷ []))) (codes "z"))
    (answers_residual (has_attribute (record_of (fields_of ((codes "a", binary add_operator x (long 1)) ∷ [])))
    (codes "z")))

-- a set with an unknown part keeps its parts as expressions
abbrev pub SetWithUnknown : Type 0
SetWithUnknown =
    Allowed false (set_of (terms_of (x ∷ binary add_operator (long 1) (long 1) ∷ [])))
    (answers_residual (set_of (terms_of (x ∷ long 2 ∷ []))))

-- `like` of an unknown
abbrev pub LikeKept : Type 0
LikeKept =
    Allowed false (like x (character 97 ∷ wildcard ∷ [])) (answers_residual (like x (character 97 ∷ wildcard ∷ [])))

-- an argument errs before its function is looked up
abbrev pub ArgumentErrsFirst : Type 0
ArgumentErrsFirst =
    Allowed false (call (codes "nosuch") (terms_of (binary add_operator (long 1) (text (codes "a")) ∷ [])))
    (fails (type_is_wrong long_type [] string_type))

-- a function that is not there
abbrev pub NoSuchFunction : Type 0
NoSuchFunction =
    Allowed false (call (codes "nosuch") (terms_of (long 1 ∷ []))) (fails (function_is_missing (codes "nosuch")))

-- beside an unknown argument it is not looked up
abbrev pub UnknownArgument : Type 0
UnknownArgument =
    Allowed false (call (codes "nosuch") (terms_of (x ∷ [])))
    (answers_residual (call (codes "nosuch") (terms_of (x ∷ []))))

-- a wrong number of arguments
abbrev pub TooManyArguments : Type 0
TooManyArguments =
    Allowed false (call (codes "even") (terms_of (long 1 ∷ long 2 ∷ [])))
    (fails (arguments_are_miscounted (codes "even") 1 2))

-- also too few
abbrev pub TooFewArguments : Type 0
TooFewArguments =
    Allowed false (call (codes "even") (terms_of [])) (fails (arguments_are_miscounted (codes "even") 1 0))

-- a function answers
abbrev pub FunctionAnswers : Type 0
FunctionAnswers = Allowed false (call (codes "even") (terms_of (long 4 ∷ []))) (answers_bool true)

-- a text that has the pattern
abbrev pub LikeMatches : Type 0
LikeMatches = Allowed false (like (text (codes "abc")) (character 97 ∷ wildcard ∷ [])) (answers_bool true)

-- and one that hasn't
abbrev pub LikeFails : Type 0
LikeFails = Allowed false (like (text (codes "abc")) (wildcard ∷ character 98 ∷ [])) (answers_bool false)

-- `like` is of a text
abbrev pub LikeOfLong : Type 0
LikeOfLong =
    Allowed false (like (long 1) (wildcard ∷ [])) (fails (type_is_wrong string_type [] long_type))
