-- Worked examples: what expressions mean in a world, with the setting of `Examples`.
use Rattle.std.specs.Prelude.{◌≡◌, pos, negsuc, true, false, [], ◌∷◌, codes}
use Rattle.cedar_model.specs.Terms.{long_literal, principal_slot, neg_operator, add_operator, in_operator}
use Rattle.cedar_model.specs.Terms.{get_tag_operator, Term, slot, both, unary, binary, call, get_attribute}
use Rattle.cedar_model.specs.Terms.{has_attribute, extended_has, is_of_type, set_of, record_of, literal, terms_of}
use Rattle.cedar_model.specs.Terms.{fields_of}
use Rattle.cedar_model.specs.Values.{plain, set_value, no_values, one_value}
use Rattle.cedar_model.specs.Outcomes.{entity_does_not_exist, entity_attribute_does_not_exist}
use Rattle.cedar_model.specs.Outcomes.{record_attribute_does_not_exist, function_does_not_exist, type_error}
use Rattle.cedar_model.specs.Outcomes.{wrong_number_of_arguments, integer_overflow, unlinked_slot, Outcome, gives, errs}
use Rattle.cedar_model.specs.Outcomes.{gives_bool}
use Rattle.cedar_model.specs.World.{World}
use Rattle.cedar_model.specs.Meaning.{meaning}
use Rattle.cedar_model.specs.Agreement.{no_slots, own_world}
use Rattle.cedar_model.specs.examples.Setting.{entity_of_type, long, text, entity, bool, x, example_entity, parent, some_setting}
use Rattle.cedar_model.specs.examples.Setting.{some_extensions, some_functions}

-- every unknown is 7
abbrev pub some_world : World
some_world = own_world (some_setting false) (λ n. plain (long_literal (pos 7)))

abbrev pub Means : Term → Outcome → Type 0
Means t o = meaning some_extensions some_functions some_world no_slots t ≡ o

-- one above the greatest long
abbrev pub MeansOverflowAbove : Type 0
MeansOverflowAbove = Means (binary add_operator (long 9223372036854775807) (long 1)) (errs integer_overflow)

-- minus the least long
abbrev pub MeansOverflowBelow : Type 0
MeansOverflowBelow =
    Means (unary neg_operator (literal (long_literal (negsuc 9223372036854775807)))) (errs integer_overflow)

-- the least long is one
abbrev pub MeansLeastLong : Type 0
MeansLeastLong =
    Means (literal (long_literal (negsuc 9223372036854775807)))
    (gives (plain (long_literal (negsuc 9223372036854775807))))

-- the first error of a record is by its keys
abbrev pub MeansFirstErrorByKey : Type 0
MeansFirstErrorByKey =
    Means (record_of (fields_of ((codes "a", binary add_operator (long 9223372036854775807) (long 1)) ∷
    (codes "b", binary add_operator (long 1) (text (codes "a"))) ∷ []))) (errs integer_overflow)

-- the left side errs first
abbrev pub MeansLeftErrorFirst : Type 0
MeansLeftErrorFirst =
    Means (binary add_operator (binary add_operator (long 1) (text (codes "a")))
    (binary add_operator (long 9223372036854775807) (long 1))) (errs type_error)

-- operands before their types
abbrev pub MeansOperandsBeforeTypes : Type 0
MeansOperandsBeforeTypes =
    Means (binary add_operator (text (codes "a")) (binary add_operator (long 9223372036854775807) (long 1)))
    (errs integer_overflow)

-- an entity that isn't there has nothing
abbrev pub MeansMissingHas : Type 0
MeansMissingHas =
    Means (has_attribute (entity (entity_of_type (codes "E") (codes "none"))) (codes "f")) (gives_bool false)

-- and no attribute
abbrev pub MeansMissingAttributeOf : Type 0
MeansMissingAttributeOf =
    Means (get_attribute (entity (entity_of_type (codes "E") (codes "none"))) (codes "f")) (errs entity_does_not_exist)

-- an attribute of an entity
abbrev pub MeansAttribute : Type 0
MeansAttribute = Means (get_attribute (entity example_entity) (codes "a")) (gives (plain (long_literal (pos 1))))

-- one that it lacks
abbrev pub MeansAttributeMissing : Type 0
MeansAttributeMissing = Means (get_attribute (entity example_entity) (codes "z")) (errs entity_attribute_does_not_exist)

-- a key that a record lacks
abbrev pub MeansKeyMissing : Type 0
MeansKeyMissing =
    Means (get_attribute (record_of (fields_of ((codes "a", long 1) ∷ []))) (codes "z"))
    (errs record_attribute_does_not_exist)

-- a tag that an entity lacks
abbrev pub MeansTagMissing : Type 0
MeansTagMissing =
    Means (binary get_tag_operator (entity example_entity) (text (codes "z"))) (errs entity_attribute_does_not_exist)

-- an entity is in its ancestors
abbrev pub MeansInAncestor : Type 0
MeansInAncestor = Means (binary in_operator (entity example_entity) (entity parent)) (gives_bool true)

-- and in itself, also where it isn't there
abbrev pub MeansInItself : Type 0
MeansInItself =
    Means (binary in_operator (entity (entity_of_type (codes "E") (codes "none")))
    (entity (entity_of_type (codes "E") (codes "none")))) (gives_bool true)

-- a set of entities alone
abbrev pub MeansInMixedSet : Type 0
MeansInMixedSet =
    Means (binary in_operator (entity (entity_of_type (codes "E") (codes "none")))
    (set_of (terms_of (entity (entity_of_type (codes "E") (codes "none")) ∷ long 1 ∷ [])))) (errs type_error)

-- an extended `has` stops at an attribute that isn't there
abbrev pub MeansPathStops : Type 0
MeansPathStops =
    Means (extended_has (record_of (fields_of ((codes "a", long 1) ∷ []))) (codes "b") (codes "c" ∷ []))
    (gives_bool false)

-- and errs at a value without attributes
abbrev pub MeansPathOfLong : Type 0
MeansPathOfLong =
    Means (extended_has (record_of (fields_of ((codes "a", long 1) ∷ []))) (codes "a") (codes "b" ∷ []))
    (errs type_error)

-- a slot that isn't reached
abbrev pub MeansSlotNotReached : Type 0
MeansSlotNotReached = Means (both (bool false) (slot principal_slot)) (gives_bool false)

-- a slot without an entity
abbrev pub MeansSlotUnlinked : Type 0
MeansSlotUnlinked = Means (slot principal_slot) (errs unlinked_slot)

-- an unknown is what sigma says
abbrev pub MeansUnknown : Type 0
MeansUnknown = Means (binary add_operator x (long 1)) (gives (plain (long_literal (pos 8))))

-- a set has each element once
abbrev pub MeansSetOnce : Type 0
MeansSetOnce =
    Means (set_of (terms_of (long 2 ∷ long 1 ∷ long 2 ∷ [])))
    (gives (set_value (one_value (plain (long_literal (pos 1))) (one_value (plain (long_literal (pos 2))) no_values))))

-- an argument errs before its function is looked up
abbrev pub MeansArgumentErrsFirst : Type 0
MeansArgumentErrsFirst =
    Means (call (codes "nosuch") (terms_of (binary add_operator (long 1) (text (codes "a")) ∷ []))) (errs type_error)

-- a function that isn't there
abbrev pub MeansNoSuchFunction : Type 0
MeansNoSuchFunction = Means (call (codes "nosuch") (terms_of (long 1 ∷ []))) (errs function_does_not_exist)

-- too few arguments
abbrev pub MeansTooFewArguments : Type 0
MeansTooFewArguments = Means (call (codes "even") (terms_of [])) (errs wrong_number_of_arguments)

-- a function
abbrev pub MeansFunction : Type 0
MeansFunction = Means (call (codes "even") (terms_of (long 4 ∷ []))) (gives_bool true)

-- `is` goes by the entity's type
abbrev pub MeansIs : Type 0
MeansIs = Means (is_of_type (entity (entity_of_type (codes "E") (codes "none"))) (codes "E")) (gives_bool true)
