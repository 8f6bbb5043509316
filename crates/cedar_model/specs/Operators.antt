-- What each operator answers to values, with the fields of its errors.
use Rattle.std.specs.Prelude.{ℤ, ◌+ℤ◌, ◌-ℤ◌, ◌*ℤ◌, neg_ℤ, Bool, true, false, cond, not, ◌||◌, List, [], ◌∷◌, map}
use Rattle.std.specs.Prelude.{length, take, Option, Some, None, is_some}
use Rattle.std.specs.Str.{chars}
use Rattle.std.specs.declared.cmp.Ordering.{Ordering}
use Rattle.std.specs.Ordering.{is_lt, is_le}
use Rattle.cedar_model.specs.Terms.{Text, EntityName, bool_literal, long_literal, text_literal, entity_literal}
use Rattle.cedar_model.specs.Terms.{ValueType, bool_type, long_type, string_type, set_type, record_type, extension_type}
use Rattle.cedar_model.specs.Terms.{UnaryOperator, not_operator, neg_operator, is_empty_operator, BinaryOperator}
use Rattle.cedar_model.specs.Terms.{eq_operator, less_operator, less_eq_operator, add_operator, sub_operator}
use Rattle.cedar_model.specs.Terms.{mul_operator, in_operator, contains_operator, contains_all_operator}
use Rattle.cedar_model.specs.Terms.{contains_any_operator, get_tag_operator, has_tag_operator, PatternPart, Slot, Term}
use Rattle.cedar_model.specs.Terms.{literal, unknown, binary, get_attribute, has_attribute, extended_has, Fields}
use Rattle.cedar_model.specs.Terms.{no_fields, one_field}
use Rattle.cedar_model.specs.Values.{AbstractValue, plain, set_value, record_value, extension_value, AbstractValues}
use Rattle.cedar_model.specs.Values.{no_values, one_value, Represented, plain_represented, set_represented}
use Rattle.cedar_model.specs.Values.{record_represented, extension_represented, RepresentedFields, no_represented_at}
use Rattle.cedar_model.specs.Values.{one_represented_at, abstract_value, expression_of}
use Rattle.cedar_model.specs.Keys.{value_eq}
use Rattle.cedar_model.specs.Sets.{has_value}
use Rattle.cedar_model.specs.Outcomes.{bool_of, long_of, text_of, entity_of, elements_of, value_type, text_eq, has_text}
use Rattle.cedar_model.specs.Outcomes.{type_eq, is_long, matches}
use Rattle.cedar_model.specs.World.{Extensions}
use Rattle.cedar_model.specs.Meaning.{is_empty, comparison, has_each, has_some, entities_of, some_entity}
use Rattle.cedar_model.specs.Failures.{Failure, entity_is_missing, entity_attribute_is_missing}
use Rattle.cedar_model.specs.Failures.{record_attribute_is_missing, binary_overflow, unary_overflow, slot_is_unlinked}
use Rattle.cedar_model.specs.Failures.{PartialValue, value, residual, Answer, answers, fails, answers_value}
use Rattle.cedar_model.specs.Failures.{answers_residual, answers_bool, any_entity, wrong_type}
use Rattle.cedar_model.specs.Settings.{StoredEntity, Store, Setting, missing_entity, part_at, is_among, names_of, Found}
use Rattle.cedar_model.specs.Settings.{found, not_there, not_known, look_up}
use Rattle.cedar_model.specs.Outcomes.{entity_eq}

-- goes on with what is expected, or fails
unfoldable pub expecting : {A : Type 0} → Option A → Failure → (A → Answer) → Answer
expecting None failure next = fails failure
expecting (Some x) failure next = next x

abbrev pub long_answer : ℤ → Failure → Answer
long_answer n overflow = cond (is_long n) (answers_value (plain_represented (long_literal n))) (fails overflow)

-- at most five names are shown
abbrev pub shown_names : List Text → List Text
shown_names names = take 5 names

-- ---- literals apart

unfoldable pub slot_answer : Slot → Option EntityName → Answer
slot_answer s None = fails (slot_is_unlinked s)
slot_answer s (Some e) = answers_value (plain_represented (entity_literal e))

-- an unknown that the map names is that value, if it has the annotated type
unfoldable pub typed_value : Option ValueType → Represented → Answer
typed_value None v = answers_value v
typed_value (Some t) v =
    cond (type_eq (value_type (abstract_value v)) t) (answers_value v) (fails (wrong_type t [] (abstract_value v)))

unfoldable pub mapped : Option Represented → Text → Option ValueType → Answer
mapped None n t = answers_residual (unknown n t)
mapped (Some v) n t = typed_value t v

abbrev pub unknown_answer : (Text → Option Represented) → Text → Option ValueType → Answer
unknown_answer map n t = mapped (map n) n t

-- ---- one operand

unfoldable pub unary_answer : UnaryOperator → Represented → Answer
unary_answer not_operator v =
    expecting (bool_of (abstract_value v)) (wrong_type bool_type [] (abstract_value v)) (λ b. answers_bool (not b))
unary_answer neg_operator v =
    expecting (long_of (abstract_value v)) (wrong_type long_type [] (abstract_value v))
    (λ n. long_answer (neg_ℤ n) (unary_overflow neg_operator v))
unary_answer is_empty_operator v =
    expecting (elements_of (abstract_value v)) (wrong_type set_type [] (abstract_value v))
    (λ vs. answers_bool (is_empty vs))

abbrev pub like_answer : List PatternPart → Represented → Answer
like_answer p v =
    expecting (text_of (abstract_value v)) (wrong_type string_type [] (abstract_value v))
    (λ t. answers_bool (matches p (chars t)))

abbrev pub is_answer : Text → Represented → Answer
is_answer t v =
    expecting (entity_of (abstract_value v)) (wrong_type any_entity [] (abstract_value v))
    (λ e. answers_bool (text_eq e.type_name t))

-- ---- comparisons and arithmetic

-- the type of an extension value that `<` compares
unfoldable pub overloaded_type : Extensions → AbstractValue → Option Text
overloaded_type X (extension_value t k) = cond (has_text t X.overloaded) (Some t) None
overloaded_type X (plain l) = None
overloaded_type X (set_value vs) = None
overloaded_type X (record_value fs) = None

-- one side a long expects a long; else one side an overloaded extension value expects its type; else all that can be
-- compared is expected on the left
unfoldable pub order_failure : Extensions → Option ℤ → Option ℤ → Option Text → Option Text → AbstractValue
    → AbstractValue → Failure
order_failure X (Some m) n s t v w = wrong_type long_type [] w
order_failure X None (Some n) s t v w = wrong_type long_type [] v
order_failure X None None (Some s) t v w = wrong_type (extension_type s) [] w
order_failure X None None None (Some t) v w = wrong_type (extension_type t) [] v
order_failure X None None None None v w = wrong_type long_type (map extension_type X.overloaded) v

abbrev pub comparison_failure : Extensions → AbstractValue → AbstractValue → Failure
comparison_failure X v w =
    order_failure X (long_of v) (long_of w) (overloaded_type X v) (overloaded_type X w) v w

abbrev pub comparison_answer : Extensions → (Ordering → Bool) → AbstractValue → AbstractValue → Answer
comparison_answer X test v w =
    expecting (comparison X v w) (comparison_failure X v w) (λ o. answers_bool (test o))

abbrev pub arithmetic_answer : BinaryOperator → (ℤ → ℤ → ℤ) → Represented → Represented → Answer
arithmetic_answer op f v w =
    expecting (long_of (abstract_value v)) (wrong_type long_type [] (abstract_value v))
    (λ m. expecting (long_of (abstract_value w)) (wrong_type long_type [] (abstract_value w))
    (λ n. long_answer (f m n) (binary_overflow op v w)))

-- ---- sets

abbrev pub set_expected : AbstractValue → Failure
set_expected v = wrong_type set_type [] v

unfoldable pub unless_entity : Option EntityName → Failure → Failure → Failure
unless_entity None failure rest = failure
unless_entity (Some e) failure rest = rest

-- of a set, the first element that is no entity
unfoldable pub element_failure : AbstractValues → Failure → Failure
element_failure no_values failure = failure
element_failure (one_value v vs) failure =
    unless_entity (entity_of v) (wrong_type any_entity [] v) (element_failure vs failure)

unfoldable pub entities_failure : Option AbstractValues → AbstractValue → Failure
entities_failure (Some vs) v = element_failure vs (wrong_type set_type (any_entity ∷ []) v)
entities_failure None v = wrong_type set_type (any_entity ∷ []) v

-- ---- the store

-- `in`: an entity that a partial store lacks leaves a residual, whatever stands right
unfoldable pub in_found : Found → EntityName → Represented → Answer
in_found not_known d w = answers_residual (binary in_operator (missing_entity d) (expression_of w))
in_found not_there d w =
    expecting (entities_of (abstract_value w)) (entities_failure (elements_of (abstract_value w)) (abstract_value w))
    (λ es. answers_bool (some_entity (entity_eq d) es))
in_found (found x) d w =
    expecting (entities_of (abstract_value w)) (entities_failure (elements_of (abstract_value w)) (abstract_value w))
    (λ es. answers_bool (some_entity (λ e. entity_eq d e || is_among e x.ancestors) es))

abbrev pub entity_expected : AbstractValue → Failure
entity_expected v = wrong_type any_entity [] v

abbrev pub text_expected : AbstractValue → Failure
text_expected v = wrong_type string_type [] v

abbrev pub in_answer : Store → Represented → Represented → Answer
in_answer store v w =
    expecting (entity_of (abstract_value v)) (entity_expected (abstract_value v)) (λ d. in_found (look_up store d) d w)

-- a tag or an attribute that an entity lacks
abbrev pub tag_is_missing : StoredEntity → EntityName → Text → Failure
tag_is_missing x e t =
    entity_attribute_is_missing e t false (is_some (part_at t x.attributes)) (shown_names (names_of x.tags))
    (length x.tags)

abbrev pub attribute_is_missing : StoredEntity → EntityName → Text → Failure
attribute_is_missing x e k =
    entity_attribute_is_missing e k true (is_some (part_at k x.tags)) (shown_names (names_of x.attributes))
    (length x.attributes)

-- a stored tag is answered as it is stored
unfoldable pub stored_tag : Option PartialValue → Failure → Answer
stored_tag None failure = fails failure
stored_tag (Some p) failure = answers p

unfoldable pub tag_found : Found → EntityName → Text → Answer
tag_found not_known e t =
    answers_residual (binary get_tag_operator (missing_entity e) (literal (text_literal t)))
tag_found not_there e t = fails (entity_is_missing e)
tag_found (found x) e t = stored_tag (part_at t x.tags) (tag_is_missing x e t)

unfoldable pub has_tag_found : Found → EntityName → Text → Answer
has_tag_found not_known e t =
    answers_residual (binary has_tag_operator (missing_entity e) (literal (text_literal t)))
has_tag_found not_there e t = answers_bool false
has_tag_found (found x) e t = answers_bool (is_some (part_at t x.tags))

-- the entity left, the text right, and then the store
abbrev pub on_entity_and_text : (EntityName → Text → Answer) → AbstractValue → AbstractValue → Answer
on_entity_and_text next v w =
    expecting (entity_of v) (entity_expected v) (λ e. expecting (text_of w) (text_expected w) (next e))

-- ---- two operands

unfoldable pub binary_answer : Setting → BinaryOperator → Represented → Represented → Answer
binary_answer s eq_operator v w = answers_bool (value_eq (abstract_value v) (abstract_value w))
binary_answer s less_operator v w = comparison_answer s.extensions is_lt (abstract_value v) (abstract_value w)
binary_answer s less_eq_operator v w = comparison_answer s.extensions is_le (abstract_value v) (abstract_value w)
binary_answer s add_operator v w = arithmetic_answer add_operator ◌+ℤ◌ v w
binary_answer s sub_operator v w = arithmetic_answer sub_operator ◌-ℤ◌ v w
binary_answer s mul_operator v w = arithmetic_answer mul_operator ◌*ℤ◌ v w
binary_answer s in_operator v w = in_answer s.store v w
binary_answer s contains_operator v w =
    expecting (elements_of (abstract_value v)) (set_expected (abstract_value v))
    (λ us. answers_bool (has_value (abstract_value w) us))
binary_answer s contains_all_operator v w =
    expecting (elements_of (abstract_value v)) (set_expected (abstract_value v))
    (λ us. expecting (elements_of (abstract_value w)) (set_expected (abstract_value w))
    (λ vs. answers_bool (has_each vs us)))
binary_answer s contains_any_operator v w =
    expecting (elements_of (abstract_value v)) (set_expected (abstract_value v))
    (λ us. expecting (elements_of (abstract_value w)) (set_expected (abstract_value w))
    (λ vs. answers_bool (has_some vs us)))
binary_answer s get_tag_operator v w =
    on_entity_and_text (λ e. tag_found (look_up s.store e) e) (abstract_value v) (abstract_value w)
binary_answer s has_tag_operator v w =
    on_entity_and_text (λ e. has_tag_found (look_up s.store e) e) (abstract_value v) (abstract_value w)

-- ---- attributes

unfoldable pub represented_at : Text → RepresentedFields → Option Represented
represented_at k no_represented_at = None
represented_at k (one_represented_at l v fs) = cond (text_eq k l) (Some v) (represented_at k fs)

unfoldable pub term_at : Text → Fields → Option Term
term_at k no_fields = None
term_at k (one_field l t fs) = cond (text_eq k l) (Some t) (term_at k fs)

unfoldable pub represented_names : RepresentedFields → List Text
represented_names no_represented_at = []
represented_names (one_represented_at k v fs) = k ∷ represented_names fs

unfoldable pub field_names : Fields → List Text
field_names no_fields = []
field_names (one_field k t fs) = k ∷ field_names fs

-- a key that a record lacks, which has these
abbrev pub key_is_missing : Text → List Text → Failure
key_is_missing k names = record_attribute_is_missing k (shown_names names) (length names)

-- what has attributes: a record or an entity
pub data Container : Type 0 where
  a_record : RepresentedFields → Container
  an_entity : EntityName → Container
  no_container : Container

unfoldable pub container_of : Represented → Container
container_of (plain_represented (bool_literal b)) = no_container
container_of (plain_represented (long_literal n)) = no_container
container_of (plain_represented (text_literal t)) = no_container
container_of (plain_represented (entity_literal e)) = an_entity e
container_of (set_represented vs) = no_container
container_of (record_represented fs) = a_record fs
container_of (extension_represented t k f ts) = no_container

abbrev pub container_expected : Represented → Failure
container_expected v = wrong_type record_type (any_entity ∷ []) (abstract_value v)

unfoldable pub value_or_failure : Option Represented → Failure → Answer
value_or_failure None failure = fails failure
value_or_failure (Some v) failure = answers_value v

-- a stored attribute that is an unknown goes through the map; any other is answered as it is stored
unfoldable pub stored_attribute : (Text → Option Represented) → Option PartialValue → Failure → Answer
stored_attribute map None failure = fails failure
stored_attribute map (Some (value v)) failure = answers_value v
stored_attribute map (Some (residual (unknown n t))) failure = unknown_answer map n t
stored_attribute map (Some (residual t)) failure = answers_residual t

unfoldable pub attribute_found : (Text → Option Represented) → Found → EntityName → Text → Answer
attribute_found map not_known e k = answers_residual (get_attribute (missing_entity e) k)
attribute_found map not_there e k = fails (entity_is_missing e)
attribute_found map (found x) e k = stored_attribute map (part_at k x.attributes) (attribute_is_missing x e k)

unfoldable pub attribute_in : Setting → Container → Failure → Text → Answer
attribute_in s (a_record fs) failure k =
    value_or_failure (represented_at k fs) (key_is_missing k (represented_names fs))
attribute_in s (an_entity e) failure k = attribute_found s.map (look_up s.store e) e k
attribute_in s no_container failure k = fails failure

-- the attribute of a value
abbrev pub attribute_answer : Setting → Represented → Text → Answer
attribute_answer s v k = attribute_in s (container_of v) (container_expected v) k

unfoldable pub has_found : Found → EntityName → Text → Answer
has_found not_known e k = answers_residual (has_attribute (missing_entity e) k)
has_found not_there e k = answers_bool false
has_found (found x) e k = answers_bool (is_some (part_at k x.attributes))

unfoldable pub has_in : Store → Container → Failure → Text → Answer
has_in store (a_record fs) failure k = answers_bool (is_some (represented_at k fs))
has_in store (an_entity e) failure k = has_found (look_up store e) e k
has_in store no_container failure k = fails failure

-- whether a value has an attribute
abbrev pub has_answer : Setting → Represented → Text → Answer
has_answer s v k = has_in s.store (container_of v) (container_expected v) k

-- ---- extended `has` on a value

-- what a step finds: the end, a value to walk on from, or an answer
pub data Walk : Type 0 where
  walks_on : Represented → Walk
  stops : Answer → Walk

unfoldable pub walk_to : Option Represented → Walk
walk_to None = stops (answers_bool false)
walk_to (Some v) = walks_on v

-- a stored residual keeps the attributes after it
unfoldable pub walk_to_stored : Option PartialValue → Text → List Text → Walk
walk_to_stored None l ls = stops (answers_bool false)
walk_to_stored (Some (value v)) l ls = walks_on v
walk_to_stored (Some (residual t)) l ls = stops (answers_residual (extended_has t l ls))

-- an entity that a partial store lacks keeps the attributes not yet walked
unfoldable pub walk_found : Found → EntityName → Text → Text → List Text → Walk
walk_found not_known e k l ls = stops (answers_residual (extended_has (missing_entity e) k (l ∷ ls)))
walk_found not_there e k l ls = stops (answers_bool false)
walk_found (found x) e k l ls = walk_to_stored (part_at k x.attributes) l ls

-- a step that is not the last, by k to where l and ls are to be walked
unfoldable pub walk_in : Store → Container → Failure → Text → Text → List Text → Walk
walk_in store (a_record fs) failure k l ls = walk_to (represented_at k fs)
walk_in store (an_entity e) failure k l ls = walk_found (look_up store e) e k l ls
walk_in store no_container failure k l ls = stops (fails failure)

-- the last attribute is a presence check
unfoldable pub last_found : Found → EntityName → Text → Answer
last_found not_known e k = answers_residual (extended_has (missing_entity e) k [])
last_found not_there e k = answers_bool false
last_found (found x) e k = answers_bool (is_some (part_at k x.attributes))

unfoldable pub last_in : Store → Container → Failure → Text → Answer
last_in store (a_record fs) failure k = answers_bool (is_some (represented_at k fs))
last_in store (an_entity e) failure k = last_found (look_up store e) e k
last_in store no_container failure k = fails failure

unfoldable pub after_walk : Walk → (Represented → Answer) → Answer
after_walk (walks_on v) next = next v
after_walk (stops a) next = a

unfoldable pub path_answer : Store → Represented → Text → List Text → Answer
path_answer store v k [] = last_in store (container_of v) (container_expected v) k
path_answer store v k (l ∷ ls) =
    after_walk (walk_in store (container_of v) (container_expected v) k l ls) (λ u. path_answer store u l ls)

-- ---- the stored residual that a look-up reads

unfoldable pub residual_in : Option PartialValue → Option Term
residual_in None = None
residual_in (Some (value v)) = None
residual_in (Some (residual t)) = Some t

unfoldable pub attribute_residual_found : Found → Text → Option Term
attribute_residual_found not_known k = None
attribute_residual_found not_there k = None
attribute_residual_found (found x) k = residual_in (part_at k x.attributes)

unfoldable pub tag_residual_found : Found → Text → Option Term
tag_residual_found not_known t = None
tag_residual_found not_there t = None
tag_residual_found (found x) t = residual_in (part_at t x.tags)

unfoldable pub attribute_residual_of : Store → Option EntityName → Text → Option Term
attribute_residual_of store None k = None
attribute_residual_of store (Some e) k = attribute_residual_found (look_up store e) k

unfoldable pub tag_residual_of : Store → Option EntityName → Option Text → Option Term
tag_residual_of store None t = None
tag_residual_of store (Some e) None = None
tag_residual_of store (Some e) (Some t) = tag_residual_found (look_up store e) t

-- an attribute of a value: that of an entity that is there, where it is a residual
abbrev pub attribute_residual : Store → Represented → Text → Option Term
attribute_residual store v k = attribute_residual_of store (entity_of (abstract_value v)) k

-- of two operands, which read a stored part only as a tag
unfoldable pub binary_residual : Store → BinaryOperator → Represented → Represented → Option Term
binary_residual store eq_operator v w = None
binary_residual store less_operator v w = None
binary_residual store less_eq_operator v w = None
binary_residual store add_operator v w = None
binary_residual store sub_operator v w = None
binary_residual store mul_operator v w = None
binary_residual store in_operator v w = None
binary_residual store contains_operator v w = None
binary_residual store contains_all_operator v w = None
binary_residual store contains_any_operator v w = None
binary_residual store get_tag_operator v w =
    tag_residual_of store (entity_of (abstract_value v)) (text_of (abstract_value w))
binary_residual store has_tag_operator v w = None
