-- The meaning of an expression in a world: a value, or the kind of its first error in the order of evaluation. In
-- Cedar's documentation: the pages on the syntax of policies, on data types and on operators.
use Rattle.std.specs.Prelude.{ℕ, ◌==◌, ℤ, ◌+ℤ◌, ◌-ℤ◌, ◌*ℤ◌, neg_ℤ, Bool, true, false, cond, not, ◌&&◌, ◌||◌, List, []}
use Rattle.std.specs.Prelude.{◌∷◌, length, Option, Some, None, Result, Ok, Err, is_some}
use Rattle.std.specs.Str.{chars}
use Rattle.std.specs.declared.cmp.Ordering.{Ordering}
use Rattle.std.specs.Ordering.{int_cmp, nat_cmp, is_lt, is_le}
use Rattle.std.specs.Cmp.Lexicographic.{slice_cmp}
use Rattle.cedar_model.specs.Terms.{Text, EntityName, bool_literal, long_literal, text_literal, entity_literal}
use Rattle.cedar_model.specs.Terms.{UnaryOperator, not_operator, neg_operator, is_empty_operator, BinaryOperator}
use Rattle.cedar_model.specs.Terms.{eq_operator, less_operator, less_eq_operator, add_operator, sub_operator}
use Rattle.cedar_model.specs.Terms.{mul_operator, in_operator, contains_operator, contains_all_operator}
use Rattle.cedar_model.specs.Terms.{contains_any_operator, get_tag_operator, has_tag_operator, Term, literal, variable}
use Rattle.cedar_model.specs.Terms.{slot, unknown, if_then_else, both, either, unary, binary, call, get_attribute}
use Rattle.cedar_model.specs.Terms.{has_attribute, extended_has, like, is_of_type, set_of, record_of, Terms, no_terms}
use Rattle.cedar_model.specs.Terms.{one_term, Fields, no_fields, one_field}
use Rattle.cedar_model.specs.Values.{AbstractValue, plain, set_value, record_value, extension_value, AbstractValues}
use Rattle.cedar_model.specs.Values.{no_values, one_value, AbstractFields, no_values_at, one_value_at}
use Rattle.cedar_model.specs.Keys.{value_eq}
use Rattle.cedar_model.specs.Sets.{abstract_set, has_value}
use Rattle.cedar_model.specs.Outcomes.{ErrorKind, entity_does_not_exist, entity_attribute_does_not_exist}
use Rattle.cedar_model.specs.Outcomes.{record_attribute_does_not_exist, function_does_not_exist, type_error}
use Rattle.cedar_model.specs.Outcomes.{wrong_number_of_arguments, integer_overflow, unlinked_slot, Outcome, gives, errs}
use Rattle.cedar_model.specs.Outcomes.{gives_bool, and_then, needing, bool_of, long_of, text_of, entity_of, elements_of}
use Rattle.cedar_model.specs.Outcomes.{text_eq, entity_eq, has_text, value_at, is_long, matches}
use Rattle.cedar_model.specs.World.{WorldEntity, World, variable_value, Slots, FunctionAnswer, function_gives}
use Rattle.cedar_model.specs.World.{function_errs, function_asks, Extensions, Functions}

-- ---- operators on values

-- a long, or an overflow
abbrev pub long_outcome : ℤ → Outcome
long_outcome n = cond (is_long n) (gives (plain (long_literal n))) (errs integer_overflow)

unfoldable pub is_empty : AbstractValues → Bool
is_empty no_values = true
is_empty (one_value v vs) = false

unfoldable pub unary_meaning : UnaryOperator → AbstractValue → Outcome
unary_meaning not_operator v = needing (bool_of v) (λ b. gives_bool (not b))
unary_meaning neg_operator v = needing (long_of v) (λ n. long_outcome (neg_ℤ n))
unary_meaning is_empty_operator v = needing (elements_of v) (λ vs. gives_bool (is_empty vs))

-- the order of two extension values of one overloaded type
unfoldable pub extension_order : Extensions → AbstractValue → AbstractValue → Option Ordering
extension_order X (extension_value s j) (extension_value t k) =
    cond (text_eq s t && has_text s X.overloaded) (Some (slice_cmp nat_cmp j k)) None
extension_order X v w = None

unfoldable pub order_of : Option ℤ → Option ℤ → Option Ordering → Option Ordering
order_of (Some m) (Some n) o = Some (int_cmp m n)
order_of (Some m) None o = o
order_of None n o = o

-- what `<` and `<=` compare: two longs, or two extension values of one overloaded type, by their keys
abbrev pub comparison : Extensions → AbstractValue → AbstractValue → Option Ordering
comparison X v w = order_of (long_of v) (long_of w) (extension_order X v w)

abbrev pub arithmetic : (ℤ → ℤ → ℤ) → AbstractValue → AbstractValue → Outcome
arithmetic f v w = needing (long_of v) (λ m. needing (long_of w) (λ n. long_outcome (f m n)))

-- whether the second set has each element of the first, and whether it has one
unfoldable pub has_each : AbstractValues → AbstractValues → Bool
has_each no_values ws = true
has_each (one_value v vs) ws = has_value v ws && has_each vs ws

unfoldable pub has_some : AbstractValues → AbstractValues → Bool
has_some no_values ws = false
has_some (one_value v vs) ws = has_value v ws || has_some vs ws

-- the entities of a set of entities
unfoldable pub add_entity : Option EntityName → Option (List EntityName) → Option (List EntityName)
add_entity None es = None
add_entity (Some e) None = None
add_entity (Some e) (Some es) = Some (e ∷ es)

unfoldable pub entities_of_set : AbstractValues → Option (List EntityName)
entities_of_set no_values = Some []
entities_of_set (one_value v vs) = add_entity (entity_of v) (entities_of_set vs)

-- what stands to the right of `in`: an entity, or a set of entities
unfoldable pub entities_of : AbstractValue → Option (List EntityName)
entities_of (plain (bool_literal b)) = None
entities_of (plain (long_literal n)) = None
entities_of (plain (text_literal t)) = None
entities_of (plain (entity_literal e)) = Some (e ∷ [])
entities_of (set_value vs) = entities_of_set vs
entities_of (record_value fs) = None
entities_of (extension_value t k) = None

-- whether the test holds of one of the entities
unfoldable pub some_entity : (EntityName → Bool) → List EntityName → Bool
some_entity test [] = false
some_entity test (e ∷ es) = test e || some_entity test es

unfoldable pub has_ancestor : Option WorldEntity → EntityName → Bool
has_ancestor None e = false
has_ancestor (Some d) e = d.is_ancestor e

-- an entity is in itself and in its ancestors
abbrev pub in_meaning : World → EntityName → List EntityName → Outcome
in_meaning w d es = gives_bool (some_entity (λ e. entity_eq d e || has_ancestor (w.store d) e) es)

-- the value that was found, or this error
unfoldable pub or_errs : ErrorKind → Option AbstractValue → Outcome
or_errs e None = errs e
or_errs e (Some v) = gives v

unfoldable pub tag_meaning : Option WorldEntity → Text → Outcome
tag_meaning None t = errs entity_does_not_exist
tag_meaning (Some d) t = or_errs entity_attribute_does_not_exist (d.tag t)

unfoldable pub has_tag_meaning : Option WorldEntity → Text → Bool
has_tag_meaning None t = false
has_tag_meaning (Some d) t = is_some (d.tag t)

unfoldable pub binary_meaning : Extensions → World → BinaryOperator → AbstractValue → AbstractValue → Outcome
binary_meaning X w eq_operator u v = gives_bool (value_eq u v)
binary_meaning X w less_operator u v = needing (comparison X u v) (λ o. gives_bool (is_lt o))
binary_meaning X w less_eq_operator u v = needing (comparison X u v) (λ o. gives_bool (is_le o))
binary_meaning X w add_operator u v = arithmetic ◌+ℤ◌ u v
binary_meaning X w sub_operator u v = arithmetic ◌-ℤ◌ u v
binary_meaning X w mul_operator u v = arithmetic ◌*ℤ◌ u v
binary_meaning X w in_operator u v = needing (entity_of u) (λ d. needing (entities_of v) (in_meaning w d))
binary_meaning X w contains_operator u v = needing (elements_of u) (λ us. gives_bool (has_value v us))
binary_meaning X w contains_all_operator u v =
    needing (elements_of u) (λ us. needing (elements_of v) (λ vs. gives_bool (has_each vs us)))
binary_meaning X w contains_any_operator u v =
    needing (elements_of u) (λ us. needing (elements_of v) (λ vs. gives_bool (has_some vs us)))
binary_meaning X w get_tag_operator u v =
    needing (entity_of u) (λ d. needing (text_of v) (λ t. tag_meaning (w.store d) t))
binary_meaning X w has_tag_operator u v =
    needing (entity_of u) (λ d. needing (text_of v) (λ t. gives_bool (has_tag_meaning (w.store d) t)))

-- ---- attributes

unfoldable pub entity_attribute : Option WorldEntity → Text → Outcome
entity_attribute None k = errs entity_does_not_exist
entity_attribute (Some d) k = or_errs entity_attribute_does_not_exist (d.attribute k)

unfoldable pub entity_has : Option WorldEntity → Text → Bool
entity_has None k = false
entity_has (Some d) k = is_some (d.attribute k)

-- the attribute of a record or an entity
unfoldable pub attribute_meaning : World → AbstractValue → Text → Outcome
attribute_meaning w (plain (bool_literal b)) k = errs type_error
attribute_meaning w (plain (long_literal n)) k = errs type_error
attribute_meaning w (plain (text_literal t)) k = errs type_error
attribute_meaning w (plain (entity_literal e)) k = entity_attribute (w.store e) k
attribute_meaning w (set_value vs) k = errs type_error
attribute_meaning w (record_value fs) k = or_errs record_attribute_does_not_exist (value_at k fs)
attribute_meaning w (extension_value t j) k = errs type_error

-- whether a record or an entity has an attribute
unfoldable pub has_meaning : World → AbstractValue → Text → Outcome
has_meaning w (plain (bool_literal b)) k = errs type_error
has_meaning w (plain (long_literal n)) k = errs type_error
has_meaning w (plain (text_literal t)) k = errs type_error
has_meaning w (plain (entity_literal e)) k = gives_bool (entity_has (w.store e) k)
has_meaning w (set_value vs) k = errs type_error
has_meaning w (record_value fs) k = gives_bool (is_some (value_at k fs))
has_meaning w (extension_value t j) k = errs type_error

-- goes on with a bool
abbrev pub and_then_bool : Outcome → (Bool → Outcome) → Outcome
and_then_bool o next = and_then o (λ v. needing (bool_of v) next)

-- an extended `has`: `e has a && e.a has b && ..`
unfoldable pub has_path : World → AbstractValue → Text → List Text → Outcome
has_path w v k [] = has_meaning w v k
has_path w v k (l ∷ ls) =
    and_then_bool (has_meaning w v k)
    (λ b. cond b (and_then (attribute_meaning w v k) (λ u. has_path w u l ls)) (gives_bool false))

-- ---- calls

-- an unknown that a function answers means what it stands for
unfoldable pub function_meaning : World → FunctionAnswer → Outcome
function_meaning w (function_gives v) = gives v
function_meaning w (function_errs e) = errs e
function_meaning w (function_asks n t) = gives (w.sigma n)

-- the look-up, then the count of arguments, then the function's answer
unfoldable pub call_meaning : Option ℕ → FunctionAnswer → World → ℕ → Outcome
call_meaning None a w n = errs function_does_not_exist
call_meaning (Some m) a w n = cond (n == m) (function_meaning w a) (errs wrong_number_of_arguments)

-- ---- parts in order: all their values, or the first error

unfoldable pub value_then : Outcome → Result (List AbstractValue) ErrorKind → Result (List AbstractValue) ErrorKind
value_then (errs e) rest = Err e
value_then (gives v) (Err e) = Err e
value_then (gives v) (Ok vs) = Ok (v ∷ vs)

unfoldable pub field_then : Text → Outcome → Result AbstractFields ErrorKind → Result AbstractFields ErrorKind
field_then k (errs e) rest = Err e
field_then k (gives v) (Err e) = Err e
field_then k (gives v) (Ok fs) = Ok (one_value_at k v fs)

unfoldable pub and_then_all : {A : Type 0} → Result A ErrorKind → (A → Outcome) → Outcome
and_then_all (Ok x) next = next x
and_then_all (Err e) next = errs e

unfoldable pub slot_meaning : Option EntityName → Outcome
slot_meaning None = errs unlinked_slot
slot_meaning (Some e) = gives (plain (entity_literal e))

-- ---- the meaning

module _ (X : Extensions) (ans : Functions) (w : World) (slots : Slots) where
  unfoldable mutual
    pub meaning : Term → Outcome
    meaning (literal l) = gives (plain l)
    meaning (variable v) = gives (variable_value w v)
    meaning (slot s) = slot_meaning (slots s)
    meaning (unknown n t) = gives (w.sigma n)
    meaning (if_then_else c a b) = and_then_bool (meaning c) (λ t. cond t (meaning a) (meaning b))
    meaning (both a b) =
        and_then_bool (meaning a) (λ t. cond t (and_then_bool (meaning b) gives_bool) (gives_bool false))
    meaning (either a b) =
        and_then_bool (meaning a) (λ t. cond t (gives_bool true) (and_then_bool (meaning b) gives_bool))
    meaning (unary op a) = and_then (meaning a) (unary_meaning op)
    meaning (binary op a b) = and_then (meaning a) (λ u. and_then (meaning b) (λ v. binary_meaning X w op u v))
    meaning (call f ts) =
        and_then_all (meanings ts) (λ vs. call_meaning (X.arity f) (ans f vs) w (length vs))
    meaning (get_attribute a k) = and_then (meaning a) (λ v. attribute_meaning w v k)
    meaning (has_attribute a k) = and_then (meaning a) (λ v. has_meaning w v k)
    meaning (extended_has a k ks) = and_then (meaning a) (λ v. has_path w v k ks)
    meaning (like a p) = and_then (meaning a) (λ v. needing (text_of v) (λ t. gives_bool (matches p (chars t))))
    meaning (is_of_type a t) =
        and_then (meaning a) (λ v. needing (entity_of v) (λ e. gives_bool (text_eq e.type_name t)))
    meaning (set_of ts) = and_then_all (meanings ts) (λ vs. gives (set_value (abstract_set vs)))
    meaning (record_of fs) = and_then_all (field_meanings fs) (λ gs. gives (record_value gs))

    pub meanings : Terms → Result (List AbstractValue) ErrorKind
    meanings no_terms = Ok []
    meanings (one_term t ts) = value_then (meaning t) (meanings ts)

    pub field_meanings : Fields → Result AbstractFields ErrorKind
    field_meanings no_fields = Ok no_values_at
    field_meanings (one_field k t fs) = field_then k (meaning t) (field_meanings fs)
