-- A fact of what operators answer to values, from the fact of literals, of stored and mapped parts, and of errors.
use Rattle.std.specs.Prelude.{◌≡◌, ℕ, ℤ, Bool, true, false, cond, List, [], ◌∷◌, Option, Some, None}
use Rattle.std.proofs.Common.{refl}
use Rattle.cedar_model.specs.Terms.{Text, EntityName, Literal, bool_literal, long_literal, text_literal}
use Rattle.cedar_model.specs.Terms.{entity_literal, Slot, ValueType, UnaryOperator, not_operator, neg_operator}
use Rattle.cedar_model.specs.Terms.{is_empty_operator, BinaryOperator, eq_operator, less_operator, less_eq_operator}
use Rattle.cedar_model.specs.Terms.{add_operator, sub_operator, mul_operator, in_operator, contains_operator}
use Rattle.cedar_model.specs.Terms.{contains_all_operator, contains_any_operator, get_tag_operator, has_tag_operator}
use Rattle.cedar_model.specs.Terms.{PatternPart, Term, literal, variable, slot, unknown, if_then_else, both, either}
use Rattle.cedar_model.specs.Terms.{unary, binary, call, get_attribute, has_attribute, extended_has, like, is_of_type}
use Rattle.cedar_model.specs.Terms.{set_of, record_of}
use Rattle.cedar_model.specs.Values.{AbstractValue, AbstractValues, no_values, one_value, Represented}
use Rattle.cedar_model.specs.Values.{plain_represented, set_represented, record_represented, extension_represented}
use Rattle.cedar_model.specs.Values.{RepresentedFields, abstract_value, expression_of}
use Rattle.cedar_model.specs.Outcomes.{ErrorKind, bool_of, long_of, text_of, entity_of, elements_of, value_type}
use Rattle.cedar_model.specs.Outcomes.{type_eq, is_long}
use Rattle.cedar_model.specs.Meaning.{comparison, entities_of}
use Rattle.cedar_model.specs.Failures.{Failure, entity_is_missing, entity_attribute_is_missing, binary_overflow}
use Rattle.cedar_model.specs.Failures.{unary_overflow, wrong_type, any_entity, failure_kind, of_meaning, PartialValue}
use Rattle.cedar_model.specs.Failures.{value, residual, Answer, answers, fails}
use Rattle.cedar_model.specs.Settings.{StoredEntity, Setting, missing_entity, part_at, Found, found, not_there}
use Rattle.cedar_model.specs.Settings.{not_known, found_in, look_up}
use Rattle.cedar_model.specs.Agreement.{EachStored}
use Rattle.cedar_model.specs.Operators

module _ (V : Represented → Type 0) (R : Term → Type 0) where
  abbrev pub AllPart : PartialValue → Type 0
  AllPart (value v) = V v
  AllPart (residual r) = R r

  module _ (E : Failure → Type 0) where
    abbrev pub AllAnswer : Answer → Type 0
    AllAnswer (answers p) = AllPart p
    AllAnswer (fails e) = E e

-- V0 is the fact of operands, the others are facts of what is answered
pub record Facts (s : Setting) (V0 V : Represented → Type 0) (R : Term → Type 0) (E : Failure → Type 0) : Type 0 where
  pub literals : (l : Literal) → V (plain_represented l)
  pub errs : (e : Failure) (k : ErrorKind) → failure_kind e ≡ of_meaning k → E e
  pub fields : (fs : RepresentedFields) (k : Text) (v : Represented) → V0 (record_represented fs) →
      Operators.represented_at k fs ≡ Some v → V v
  pub stored : EachStored (AllPart V R) s.store
  pub mapped : (n : Text) (v : Represented) → s.map n ≡ Some v → V v
  pub in_missing : (e : EntityName) (w : Represented) → V0 w →
      R (binary in_operator (missing_entity e) (expression_of w))
  pub tag_missing : (e : EntityName) (t : Text) →
      R (binary get_tag_operator (missing_entity e) (literal (text_literal t)))
  pub has_tag_missing : (e : EntityName) (t : Text) →
      R (binary has_tag_operator (missing_entity e) (literal (text_literal t)))
  pub attribute_missing : (e : EntityName) (k : Text) → R (get_attribute (missing_entity e) k)
  pub has_missing : (e : EntityName) (k : Text) → R (has_attribute (missing_entity e) k)
  pub path_missing : (e : EntityName) (k : Text) (ks : List Text) → R (extended_has (missing_entity e) k ks)
  pub path_stored : (e : EntityName) (x : StoredEntity) (k l : Text) (ls : List Text) (r : Term) →
      s.store.entity e ≡ Some x → part_at k x.attributes ≡ Some (residual r) → R (extended_has r l ls)

module _ (s : Setting) (V0 V : Represented → Type 0) (R : Term → Type 0) (E : Failure →
    Type 0) (h : Facts s V0 V R E) where
  abbrev All : Answer → Type 0
  All a = AllAnswer V R E a

  bool_all : (b : Bool) → All (answers (value (plain_represented (bool_literal b))))
  bool_all b = h.literals (bool_literal b)

  expecting_all : {A : Type 0} (o : Option A) (e : Failure) (next : A → Answer) → E e → ((x : A) → All (next x)) →
      All (Operators.expecting o e next)
  unfolding Operators.expecting
  expecting_all None e next f g = f
  expecting_all (Some x) e next f g = g x

  pub wrong_all : (t : ValueType) (ts : List ValueType) (v : AbstractValue) → E (wrong_type t ts v)
  unfolding failure_kind
  wrong_all t ts v = h.errs _ _ refl

  long_by : (b : Bool) (n : ℤ) (e : Failure) → E e →
      All (cond b (answers (value (plain_represented (long_literal n)))) (fails e))
  long_by true n e g = h.literals (long_literal n)
  long_by false n e g = g

  unary_overflow_all : (op : UnaryOperator) (v : Represented) → E (unary_overflow op v)
  unfolding failure_kind
  unary_overflow_all op v = h.errs _ _ refl

  binary_overflow_all : (op : BinaryOperator) (v w : Represented) → E (binary_overflow op v w)
  unfolding failure_kind
  binary_overflow_all op v w = h.errs _ _ refl

  entity_all : (e : EntityName) → E (entity_is_missing e)
  unfolding failure_kind
  entity_all e = h.errs _ _ refl

  key_all : (e : EntityName) (k : Text) (b c : Bool) (ks : List Text) (n : ℕ) →
      E (entity_attribute_is_missing e k b c ks n)
  unfolding failure_kind
  key_all e k b c ks n = h.errs _ _ refl

  pub record_key_all : (k : Text) (ks : List Text) → E (Operators.key_is_missing k ks)
  unfolding failure_kind
  record_key_all k ks = h.errs _ _ refl

  pub slot_all : (i : Slot) (o : Option EntityName) → All (Operators.slot_answer i o)
  unfolding Operators.slot_answer failure_kind
  slot_all i None = h.errs _ _ refl
  slot_all i (Some e) = h.literals (entity_literal e)

  pub unary_all : (op : UnaryOperator) (v : Represented) → All (Operators.unary_answer op v)
  unfolding Operators.unary_answer
  unary_all not_operator v = expecting_all (bool_of (abstract_value v)) _ _ (wrong_all _ _ _) (λ b. bool_all _)
  unary_all neg_operator v =
      expecting_all (long_of (abstract_value v)) _ _ (wrong_all _ _ _) (λ n. long_by (is_long _) _ _
      (unary_overflow_all neg_operator v))
  unary_all is_empty_operator v =
      expecting_all (elements_of (abstract_value v)) _ _ (wrong_all _ _ _) (λ vs. bool_all _)

  pub like_all : (p : List PatternPart) (v : Represented) → All (Operators.like_answer p v)
  like_all p v = expecting_all (text_of (abstract_value v)) _ _ (wrong_all _ _ _) (λ t. bool_all _)

  pub is_all : (t : Text) (v : Represented) → All (Operators.is_answer t v)
  is_all t v = expecting_all (entity_of (abstract_value v)) _ _ (wrong_all _ _ _) (λ e. bool_all _)

  typed_by : (b : Bool) (t : ValueType) (v : Represented) → V v →
      All (cond b (answers (value v)) (fails (wrong_type t [] (abstract_value v))))
  typed_by true t v g = g
  typed_by false t v g = wrong_all t [] (abstract_value v)

  typed_all : (t : Option ValueType) (v : Represented) → V v → All (Operators.typed_value t v)
  unfolding Operators.typed_value
  typed_all None v g = g
  typed_all (Some t) v g = typed_by (type_eq (value_type (abstract_value v)) t) t v g

  -- an unknown that the map doesn't name stays
  pub unknown_all : (n : Text) (t : Option ValueType) → (s.map n ≡ None → R (unknown n t)) →
      All (Operators.unknown_answer s.map n t)
  unfolding Operators.mapped
  unknown_all n t f = by (s.map n) refl
    where
      by : (o : Option Represented) → s.map n ≡ o → All (Operators.mapped o n t)
      by None e = f e
      by (Some v) e = typed_all t v (h.mapped n v e)

  order_all : (m n : Option ℤ) (t u : Option Text) (v w : AbstractValue) →
      E (Operators.order_failure s.extensions m n t u v w)
  unfolding Operators.order_failure
  order_all (Some m) n t u v w = wrong_all _ _ _
  order_all None (Some n) t u v w = wrong_all _ _ _
  order_all None None (Some t) u v w = wrong_all _ _ _
  order_all None None None (Some u) v w = wrong_all _ _ _
  order_all None None None None v w = wrong_all _ _ _

  element_all : (vs : AbstractValues) (e : Failure) → E e → E (Operators.element_failure vs e)
  unfolding Operators.element_failure Operators.unless_entity
  element_all no_values e g = g
  element_all (one_value v vs) e g = by (entity_of v) (element_all vs e g)
    where
      by : (o : Option EntityName) → E (Operators.element_failure vs e) →
          E (Operators.unless_entity o (wrong_type any_entity [] v) (Operators.element_failure vs e))
      by None k = wrong_all _ _ _
      by (Some d) k = k

  entities_all : (o : Option AbstractValues) (v : AbstractValue) → E (Operators.entities_failure o v)
  unfolding Operators.entities_failure
  entities_all None v = wrong_all _ _ _
  entities_all (Some vs) v = element_all vs _ (wrong_all _ _ _)

  arithmetic_all : (op : BinaryOperator) (f : ℤ → ℤ → ℤ) (v w : Represented) →
      All (Operators.arithmetic_answer op f v w)
  arithmetic_all op f v w =
      expecting_all (long_of (abstract_value v)) _ _ (wrong_all _ _ _)
      (λ m. expecting_all (long_of (abstract_value w)) _ _ (wrong_all _ _ _) (λ n. long_by (is_long _) _ _
      (binary_overflow_all op v w)))

  in_all : (f : Found) (e : EntityName) (w : Represented) → V0 w → All (Operators.in_found f e w)
  unfolding Operators.in_found
  in_all not_known e w g = h.in_missing e w g
  in_all not_there e w g = expecting_all (entities_of (abstract_value w)) _ _ (entities_all _ _) (λ es. bool_all _)
  in_all (found x) e w g = expecting_all (entities_of (abstract_value w)) _ _ (entities_all _ _) (λ es. bool_all _)

  -- what is found stands in the store
  found_is : (e : EntityName) (x : StoredEntity) → look_up s.store e ≡ found x → s.store.entity e ≡ Some x
  unfolding found_in
  found_is e x g = by (s.store.entity e) s.store.is_partial g
    where
      by : (o : Option StoredEntity) (b : Bool) → found_in o b ≡ found x → o ≡ Some x
      by None true g = absurd (cc)
      by None false g = absurd (cc)
      by (Some y) b g = cc

  stored_at : (o : Option PartialValue) (e : Failure) → ((p : PartialValue) → o ≡ Some p → AllPart V R p) → E e →
      All (Operators.stored_tag o e)
  unfolding Operators.stored_tag
  stored_at None e f g = g
  stored_at (Some p) e f g = f p refl

  tag_all : (e : EntityName) (t : Text) (f : Found) → look_up s.store e ≡ f → All (Operators.tag_found f e t)
  unfolding Operators.tag_found
  tag_all e t not_known g = h.tag_missing e t
  tag_all e t not_there g = entity_all e
  tag_all e t (found x) g =
      stored_at (part_at t x.tags) _ (λ p k. (h.stored e x t p (found_is e x g)).1 k) (key_all _ _ _ _ _ _)

  has_tag_all : (e : EntityName) (t : Text) (f : Found) → All (Operators.has_tag_found f e t)
  unfolding Operators.has_tag_found
  has_tag_all e t not_known = h.has_tag_missing e t
  has_tag_all e t not_there = bool_all false
  has_tag_all e t (found x) = bool_all _

  tag_of_all : (next : EntityName → Text → Answer) → ((e : EntityName) (t : Text) → All (next e t)) →
      (v w : AbstractValue) → All (Operators.on_entity_and_text next v w)
  tag_of_all next f v w =
      expecting_all (entity_of v) _ _ (wrong_all _ _ _) (λ e. expecting_all (text_of w) _ _ (wrong_all _ _ _) (f e))

  pub binary_all : (op : BinaryOperator) (v w : Represented) → V0 w → All (Operators.binary_answer s op v w)
  unfolding Operators.binary_answer
  binary_all eq_operator v w g = bool_all _
  binary_all less_operator v w g =
      expecting_all (comparison s.extensions (abstract_value v) (abstract_value w)) _ _ (order_all _ _ _ _ _ _)
      (λ o. bool_all _)
  binary_all less_eq_operator v w g =
      expecting_all (comparison s.extensions (abstract_value v) (abstract_value w)) _ _ (order_all _ _ _ _ _ _)
      (λ o. bool_all _)
  binary_all add_operator v w g = arithmetic_all _ _ v w
  binary_all sub_operator v w g = arithmetic_all _ _ v w
  binary_all mul_operator v w g = arithmetic_all _ _ v w
  binary_all in_operator v w g =
      expecting_all (entity_of (abstract_value v)) _ _ (wrong_all _ _ _) (λ d. in_all (look_up s.store d) d w g)
  binary_all contains_operator v w g =
      expecting_all (elements_of (abstract_value v)) _ _ (wrong_all _ _ _) (λ us. bool_all _)
  binary_all contains_all_operator v w g =
      expecting_all (elements_of (abstract_value v)) _ _ (wrong_all _ _ _)
      (λ us. expecting_all (elements_of (abstract_value w)) _ _ (wrong_all _ _ _) (λ vs. bool_all _))
  binary_all contains_any_operator v w g =
      expecting_all (elements_of (abstract_value v)) _ _ (wrong_all _ _ _)
      (λ us. expecting_all (elements_of (abstract_value w)) _ _ (wrong_all _ _ _) (λ vs. bool_all _))
  binary_all get_tag_operator v w g =
      tag_of_all (λ e. Operators.tag_found (look_up s.store e) e) (λ e t. tag_all e t (look_up s.store e) refl)
      (abstract_value v) (abstract_value w)
  binary_all has_tag_operator v w g =
      tag_of_all (λ e. Operators.has_tag_found (look_up s.store e) e) (λ e t. has_tag_all e t (look_up s.store e))
      (abstract_value v) (abstract_value w)

  -- ---- attributes

  stored_attribute_all : (o : Option PartialValue) (e : Failure) → ((p : PartialValue) → o ≡ Some p → AllPart V R p) →
      E e → All (Operators.stored_attribute s.map o e)
  unfolding Operators.stored_attribute
  stored_attribute_all None e f g = g
  stored_attribute_all (Some (value v)) e f g = f (value v) refl
  stored_attribute_all (Some (residual (literal x))) e f g = f _ refl
  stored_attribute_all (Some (residual (variable x))) e f g = f _ refl
  stored_attribute_all (Some (residual (slot x))) e f g = f _ refl
  stored_attribute_all (Some (residual (unknown n t))) e f g = unknown_all n t (λ k. f _ refl)
  stored_attribute_all (Some (residual (if_then_else x y z))) e f g = f _ refl
  stored_attribute_all (Some (residual (both x y))) e f g = f _ refl
  stored_attribute_all (Some (residual (either x y))) e f g = f _ refl
  stored_attribute_all (Some (residual (unary x y))) e f g = f _ refl
  stored_attribute_all (Some (residual (binary x y z))) e f g = f _ refl
  stored_attribute_all (Some (residual (call x y))) e f g = f _ refl
  stored_attribute_all (Some (residual (get_attribute x y))) e f g = f _ refl
  stored_attribute_all (Some (residual (has_attribute x y))) e f g = f _ refl
  stored_attribute_all (Some (residual (extended_has x y z))) e f g = f _ refl
  stored_attribute_all (Some (residual (like x y))) e f g = f _ refl
  stored_attribute_all (Some (residual (is_of_type x y))) e f g = f _ refl
  stored_attribute_all (Some (residual (set_of x))) e f g = f _ refl
  stored_attribute_all (Some (residual (record_of x))) e f g = f _ refl

  attribute_found_all : (e : EntityName) (k : Text) (f : Found) → look_up s.store e ≡ f →
      All (Operators.attribute_found s.map f e k)
  unfolding Operators.attribute_found
  attribute_found_all e k not_known g = h.attribute_missing e k
  attribute_found_all e k not_there g = entity_all e
  attribute_found_all e k (found x) g =
      stored_attribute_all (part_at k x.attributes) _ (λ p j. (h.stored e x k p (found_is e x g)).0 j)
      (key_all _ _ _ _ _ _)

  field_all : (o : Option Represented) (e : Failure) → ((v : Represented) → o ≡ Some v → V v) → E e →
      All (Operators.value_or_failure o e)
  unfolding Operators.value_or_failure
  field_all None e f g = g
  field_all (Some v) e f g = f v refl

  pub attribute_all : (v : Represented) (k : Text) → V0 v → All (Operators.attribute_answer s v k)
  unfolding Operators.container_of Operators.attribute_in
  attribute_all (plain_represented (bool_literal x)) k g = wrong_all _ _ _
  attribute_all (plain_represented (long_literal x)) k g = wrong_all _ _ _
  attribute_all (plain_represented (text_literal x)) k g = wrong_all _ _ _
  attribute_all (plain_represented (entity_literal e)) k g = attribute_found_all e k (look_up s.store e) refl
  attribute_all (set_represented vs) k g = wrong_all _ _ _
  attribute_all (record_represented fs) k g =
      field_all (Operators.represented_at k fs) _ (λ v e. h.fields fs k v g e) (record_key_all _ _)
  attribute_all (extension_represented t x f ts) k g = wrong_all _ _ _

  has_found_all : (e : EntityName) (k : Text) (f : Found) → All (Operators.has_found f e k)
  unfolding Operators.has_found
  has_found_all e k not_known = h.has_missing e k
  has_found_all e k not_there = bool_all false
  has_found_all e k (found x) = bool_all _

  pub has_all : (v : Represented) (k : Text) → All (Operators.has_answer s v k)
  unfolding Operators.container_of Operators.has_in
  has_all (plain_represented (bool_literal x)) k = wrong_all _ _ _
  has_all (plain_represented (long_literal x)) k = wrong_all _ _ _
  has_all (plain_represented (text_literal x)) k = wrong_all _ _ _
  has_all (plain_represented (entity_literal e)) k = has_found_all e k (look_up s.store e)
  has_all (set_represented vs) k = wrong_all _ _ _
  has_all (record_represented fs) k = bool_all _
  has_all (extension_represented t x f ts) k = wrong_all _ _ _

  -- ---- extended `has`

  last_found_all : (e : EntityName) (k : Text) (f : Found) → All (Operators.last_found f e k)
  unfolding Operators.last_found
  last_found_all e k not_known = h.path_missing e k []
  last_found_all e k not_there = bool_all false
  last_found_all e k (found x) = bool_all _

  pub last_all : (v : Represented) (k : Text) →
      All (Operators.last_in s.store (Operators.container_of v) (Operators.container_expected v) k)
  unfolding Operators.container_of Operators.last_in
  last_all (plain_represented (bool_literal x)) k = wrong_all _ _ _
  last_all (plain_represented (long_literal x)) k = wrong_all _ _ _
  last_all (plain_represented (text_literal x)) k = wrong_all _ _ _
  last_all (plain_represented (entity_literal e)) k = last_found_all e k (look_up s.store e)
  last_all (set_represented vs) k = wrong_all _ _ _
  last_all (record_represented fs) k = bool_all _
  last_all (extension_represented t x f ts) k = wrong_all _ _ _

  -- what a step answers, where it stops
  abbrev pub AllStep : Operators.Walk → Type 0
  AllStep (Operators.walks_on v) = Unit {0}
  AllStep (Operators.stops a) = All a

  step_all : (o : Option Represented) → AllStep (Operators.walk_to o)
  unfolding Operators.walk_to
  step_all None = bool_all false
  step_all (Some v) = tt

  step_stored_all : (e : EntityName) (x : StoredEntity) (k l : Text) (ls : List Text) → s.store.entity e ≡ Some x →
      (o : Option PartialValue) → part_at k x.attributes ≡ o → AllStep (Operators.walk_to_stored o l ls)
  unfolding Operators.walk_to_stored
  step_stored_all e x k l ls f None g = bool_all false
  step_stored_all e x k l ls f (Some (value v)) g = tt
  step_stored_all e x k l ls f (Some (residual r)) g = h.path_stored e x k l ls r f g

  step_found_all : (e : EntityName) (k l : Text) (ls : List Text) (f : Found) → look_up s.store e ≡ f →
      AllStep (Operators.walk_found f e k l ls)
  unfolding Operators.walk_found
  step_found_all e k l ls not_known g = h.path_missing e k (l ∷ ls)
  step_found_all e k l ls not_there g = bool_all false
  step_found_all e k l ls (found x) g = step_stored_all e x k l ls (found_is e x g) (part_at k x.attributes) refl

  pub step_in_all : (v : Represented) (k l : Text) (ls : List Text) →
      AllStep (Operators.walk_in s.store (Operators.container_of v) (Operators.container_expected v) k l ls)
  unfolding Operators.container_of Operators.walk_in
  step_in_all (plain_represented (bool_literal x)) k l ls = wrong_all _ _ _
  step_in_all (plain_represented (long_literal x)) k l ls = wrong_all _ _ _
  step_in_all (plain_represented (text_literal x)) k l ls = wrong_all _ _ _
  step_in_all (plain_represented (entity_literal e)) k l ls = step_found_all e k l ls (look_up s.store e) refl
  step_in_all (set_represented vs) k l ls = wrong_all _ _ _
  step_in_all (record_represented fs) k l ls = step_all _
  step_in_all (extension_represented t x f ts) k l ls = wrong_all _ _ _

  after_all : (z : Operators.Walk) (next : Represented → Answer) → AllStep z → ((v : Represented) → All (next v)) →
      All (Operators.after_walk z next)
  unfolding Operators.after_walk
  after_all (Operators.walks_on v) next f g = g v
  after_all (Operators.stops a) next f g = f

  pub path_all : (ks : List Text) (v : Represented) (k : Text) → All (Operators.path_answer s.store v k ks)
  unfolding Operators.path_answer
  path_all [] v k = last_all v k
  path_all (l ∷ ls) v k =
      after_all (Operators.walk_in s.store (Operators.container_of v) (Operators.container_expected v) k l ls) _
      (step_in_all v k l ls) (λ u. path_all ls u l)
