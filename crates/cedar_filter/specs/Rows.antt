-- What one row says of an expression: a row is an entity, by its attributes, tags and ancestors, that stands for an
-- unknown. Of other entities, and of what is not known of the row, it says nothing.
use Rattle.std.specs.Prelude.{◌≡◌, Bool, true, false, cond, ◌&&◌, ◌||◌, Option, Some, None, is_some}
use Rattle.std.specs.Str.{chars}
use Rattle.std.specs.declared.cmp.Ordering.{Ordering}
use Rattle.std.specs.Ordering.{is_lt, is_le}
use Rattle.cedar_model.specs.Terms.{Text, EntityName, bool_literal, long_literal, text_literal, entity_literal}
use Rattle.cedar_model.specs.Terms.{BinaryOperator, eq_operator, less_operator, less_eq_operator, add_operator}
use Rattle.cedar_model.specs.Terms.{sub_operator, mul_operator, in_operator, contains_operator, contains_all_operator}
use Rattle.cedar_model.specs.Terms.{contains_any_operator, get_tag_operator, has_tag_operator, Term, literal, variable}
use Rattle.cedar_model.specs.Terms.{slot, unknown, if_then_else, both, either, unary, binary, call, get_attribute}
use Rattle.cedar_model.specs.Terms.{has_attribute, extended_has, like, is_of_type, set_of, record_of}
use Rattle.cedar_model.specs.Values.{AbstractValue, plain, set_value, record_value, extension_value, abstract_value}
use Rattle.cedar_model.specs.Keys.{value_eq}
use Rattle.cedar_model.specs.Sets.{has_value}
use Rattle.cedar_model.specs.Outcomes.{Outcome, gives, errs, gives_bool, needing, bool_of, long_of, text_of, entity_of}
use Rattle.cedar_model.specs.Outcomes.{elements_of, text_eq, entity_eq, value_at, matches, type_error}
use Rattle.cedar_model.specs.Outcomes.{entity_attribute_does_not_exist, record_attribute_does_not_exist}
use Rattle.cedar_model.specs.Meaning.{unary_meaning, or_errs, entities_of, some_entity, meaning}
use Rattle.cedar_model.specs.Failures.{PartialValue, value, residual}
use Rattle.cedar_model.specs.Settings.{StoredEntity, part_at, is_among}
use Rattle.cedar_model.specs.World.{WorldEntity, World, Slots, Extensions, Functions}
use Rattle.cedar_model.specs.Agreement.{AgreesWithFacts}
use Rattle.cedar_filter.specs.Simplifying.{longs_order}

-- what a row tells: an outcome, or nothing
pub data Told : Type 0 where
  tells : Outcome → Told
  untold : Told

-- goes on with the value that is told
abbrev pub told_then : Told → (AbstractValue → Told) → Told
told_then (tells (gives v)) next = next v
told_then (tells (errs e)) next = tells (errs e)
told_then untold next = untold

-- goes on with what is needed of a value; a value of another type is a type error
abbrev pub told_needing : {A : Type 0} → Option A → (A → Told) → Told
told_needing None next = tells (errs type_error)
told_needing (Some y) next = next y

-- goes on with a bool
abbrev pub told_bool : Told → (Bool → Told) → Told
told_bool o next = told_then o (λ v. told_needing (bool_of v) next)

abbrev pub tells_bool : Bool → Told
tells_bool b = tells (gives_bool b)

abbrev pub is_extension : AbstractValue → Bool
is_extension (plain l) = false
is_extension (set_value vs) = false
is_extension (record_value fs) = false
is_extension (extension_value t k) = true

-- `<` and `<=` of two extension values are not told: which types have an order is no matter of the row
abbrev pub comparison_told : (Ordering → Bool) → AbstractValue → AbstractValue → Told
comparison_told test u v =
    cond (is_extension u && is_extension v) untold
    (tells (needing (longs_order (long_of u) (long_of v)) (λ o. gives_bool (test o))))

-- the part of a row under a name
abbrev pub part_told : Option PartialValue → Told
part_told None = tells (errs entity_attribute_does_not_exist)
part_told (Some (value v)) = tells (gives (abstract_value v))
part_told (Some (residual t)) = untold

-- the row `e` with the facts `x`
module _ (e : EntityName) (x : StoredEntity) where
  -- the attribute of a record, or of the row
  abbrev pub attribute_told : AbstractValue → Text → Told
  attribute_told (plain (bool_literal b)) k = tells (errs type_error)
  attribute_told (plain (long_literal i)) k = tells (errs type_error)
  attribute_told (plain (text_literal t)) k = tells (errs type_error)
  attribute_told (plain (entity_literal d)) k = cond (entity_eq d e) (part_told (part_at k x.attributes)) untold
  attribute_told (set_value vs) k = tells (errs type_error)
  attribute_told (record_value fs) k = tells (or_errs record_attribute_does_not_exist (value_at k fs))
  attribute_told (extension_value t j) k = tells (errs type_error)

  -- whether a record or the row has an attribute
  abbrev pub has_told : AbstractValue → Text → Told
  has_told (plain (bool_literal b)) k = tells (errs type_error)
  has_told (plain (long_literal i)) k = tells (errs type_error)
  has_told (plain (text_literal t)) k = tells (errs type_error)
  has_told (plain (entity_literal d)) k = cond (entity_eq d e) (tells_bool (is_some (part_at k x.attributes))) untold
  has_told (set_value vs) k = tells (errs type_error)
  has_told (record_value fs) k = tells_bool (is_some (value_at k fs))
  has_told (extension_value t j) k = tells (errs type_error)

  -- whether the row is in one of these entities
  abbrev pub in_told : AbstractValue → AbstractValue → Told
  in_told u v =
      told_needing (entity_of u) (λ d. told_needing (entities_of v) (λ es.
      cond (entity_eq d e) (tells_bool (some_entity (λ a. entity_eq d a || is_among a x.ancestors) es)) untold))

  abbrev pub binary_told : BinaryOperator → AbstractValue → AbstractValue → Told
  binary_told eq_operator u v = tells_bool (value_eq u v)
  binary_told less_operator u v = comparison_told is_lt u v
  binary_told less_eq_operator u v = comparison_told is_le u v
  binary_told add_operator u v = untold
  binary_told sub_operator u v = untold
  binary_told mul_operator u v = untold
  binary_told in_operator u v = in_told u v
  binary_told contains_operator u v = told_needing (elements_of u) (λ us. tells_bool (has_value v us))
  binary_told contains_all_operator u v = untold
  binary_told contains_any_operator u v = untold
  binary_told get_tag_operator u v = untold
  binary_told has_tag_operator u v = untold

-- the row `e` with the facts `x` stands for the unknown `n`
module _ (n : Text) (e : EntityName) (x : StoredEntity) where
  -- what the row tells of an expression
  abbrev pub told : Term → Told
  told (literal l) = tells (gives (plain l))
  told (variable v) = untold
  told (slot s) = untold
  told (unknown m t) = cond (text_eq m n) (tells (gives (plain (entity_literal e)))) untold
  told (if_then_else c a b) = told_bool (told c) (λ t. cond t (told a) (told b))
  told (both a b) = told_bool (told a) (λ t. cond t (told_bool (told b) tells_bool) (tells_bool false))
  told (either a b) = told_bool (told a) (λ t. cond t (tells_bool true) (told_bool (told b) tells_bool))
  told (unary op a) = told_then (told a) (λ v. tells (unary_meaning op v))
  told (binary op a b) = told_then (told a) (λ u. told_then (told b) (binary_told e x op u))
  told (call f ts) = untold
  told (get_attribute a k) = told_then (told a) (λ v. attribute_told e x v k)
  told (has_attribute a k) = told_then (told a) (λ v. has_told e x v k)
  told (extended_has a k ks) = untold
  told (like a p) = told_then (told a) (λ v. told_needing (text_of v) (λ t. tells_bool (matches p (chars t))))
  told (is_of_type a t) = told_then (told a) (λ v. told_needing (entity_of v) (λ d. tells_bool (text_eq d.type_name t)))
  told (set_of ts) = untold
  told (record_of fs) = untold

  -- what the row tells of an expression as a condition: a truth, or an error; what is no boolean is a type error
  abbrev pub condition_told : Term → Told
  condition_told t = told_bool (told t) tells_bool

-- ---- worlds with the row

-- the unknown stands for the entity `e`, which has exactly these attributes, tags and ancestors
pub record HasRow (X : Extensions) (ans : Functions) (w : World) (n : Text) (e : EntityName)
    (x : StoredEntity) : Type 0 where
  pub stands : w.sigma n ≡ plain (entity_literal e)
  pub row : WorldEntity
  pub is_there : w.store e ≡ Some row
  pub facts_agree : AgreesWithFacts X ans w x row

-- what is told of an expression is what it means in each world that has the row
abbrev pub TellsTheMeaning : Type 0
TellsTheMeaning =
    (X : Extensions) (ans : Functions) (w : World) (slots : Slots) (n : Text) (e : EntityName) (x : StoredEntity)
    (t : Term) (o : Outcome) → HasRow X ans w n e x → told n e x t ≡ tells o → meaning X ans w slots t ≡ o
