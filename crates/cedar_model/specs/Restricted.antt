-- What is held in values and in residuals that are given: restricted expressions, and values that are written without
-- unknowns.
use Rattle.std.specs.Prelude.{◌≡◌, ◌⊎◌, true, false, List, Option, Some, None}
use Rattle.cedar_model.specs.Terms.{Text, UnaryOperator, BinaryOperator, Term, literal, variable, slot, unknown}
use Rattle.cedar_model.specs.Terms.{if_then_else, both, either, unary, binary, call, get_attribute, has_attribute}
use Rattle.cedar_model.specs.Terms.{extended_has, like, is_of_type, set_of, record_of, Terms, no_terms, one_term}
use Rattle.cedar_model.specs.Terms.{Fields, no_fields, one_field}
use Rattle.cedar_model.specs.Values.{Represented, plain_represented, set_represented, record_represented}
use Rattle.cedar_model.specs.Values.{extension_represented, RepresentedValues, no_represented, one_represented}
use Rattle.cedar_model.specs.Values.{RepresentedFields, no_represented_at, one_represented_at}
use Rattle.cedar_model.specs.Shapes.{is_restricted, are_restricted, are_restricted_at, have_unknown}
use Rattle.cedar_model.specs.Sets.{IsStrictlyInOrder}
use Rattle.cedar_model.specs.Failures.{PartialValue, value, residual, answers}
use Rattle.cedar_model.specs.Settings.{ContextPart, absent_context, known_context, residual_context, Setting}
use Rattle.cedar_model.specs.Rules.{StoredCalls}
use Rattle.cedar_model.specs.Agreement.{EachStored}

-- each set is strictly in order, and the arguments of each representation are restricted and hold no unknown
abbrev mutual
  pub IsSound : Represented → Type 0
  IsSound (plain_represented l) = Unit {0}
  IsSound (set_represented vs) = IsStrictlyInOrder vs × AreSound vs
  IsSound (record_represented fs) = AreSoundAt fs
  IsSound (extension_represented t k f ts) = (are_restricted ts ≡ true) × (have_unknown ts ≡ false)

  pub AreSound : RepresentedValues → Type 0
  AreSound no_represented = Unit {0}
  AreSound (one_represented v vs) = IsSound v × AreSound vs

  pub AreSoundAt : RepresentedFields → Type 0
  AreSoundAt no_represented_at = Unit {0}
  AreSoundAt (one_represented_at k v fs) = IsSound v × AreSoundAt fs

-- a sound value, or a restricted residual
abbrev pub IsSoundPart : PartialValue → Type 0
IsSoundPart (value v) = IsSound v
IsSoundPart (residual r) = is_restricted r ≡ true

abbrev pub IsSoundContext : ContextPart → Type 0
IsSoundContext absent_context = Unit {0}
IsSoundContext (known_context fs) = AreSoundAt fs
IsSoundContext (residual_context fs) = are_restricted_at fs ≡ true

-- all that is given is sound, and so is what functions answer: the types keep it
pub record IsGivenSound (calls : StoredCalls) (s : Setting) : Type 0 where
  pub context_sound : IsSoundContext s.request.context_part
  pub stored_sound : EachStored IsSoundPart s.store
  pub mapped_sound : (n : Text) (v : Represented) → s.map n ≡ Some v → IsSound v
  pub answers_sound : (f : Text) (vs : List Represented) (p : PartialValue) → calls f vs (answers p) → IsSoundPart p

-- ---- the first part that a restricted expression may not have

-- what such a part uses; of an operator, the operator
pub data Feature : Type 0 where
  of_variable : Feature
  of_slot : Feature
  of_if : Feature
  of_and : Feature
  of_or : Feature
  of_unary : UnaryOperator → Feature
  of_binary : BinaryOperator → Feature
  of_attribute : Feature
  of_has : Feature
  of_like : Feature
  of_is : Feature

-- a disallowed part with its feature
pub record Disallowed : Type 0 where
  pub feature : Feature
  pub part : Term

abbrev pub disallowed : Feature → Term → Option Disallowed
disallowed f t = Some record { feature = f; part = t }

unfoldable pub or_else : Option Disallowed → Option Disallowed → Option Disallowed
or_else (Some d) rest = Some d
or_else None rest = rest

-- a disallowed node at once, else the first of its parts in order
unfoldable mutual
  pub first_disallowed : Term → Option Disallowed
  first_disallowed (literal l) = None
  first_disallowed (variable v) = disallowed of_variable (variable v)
  first_disallowed (slot i) = disallowed of_slot (slot i)
  first_disallowed (unknown n t) = None
  first_disallowed (if_then_else c a b) = disallowed of_if (if_then_else c a b)
  first_disallowed (both a b) = disallowed of_and (both a b)
  first_disallowed (either a b) = disallowed of_or (either a b)
  first_disallowed (unary op a) = disallowed (of_unary op) (unary op a)
  first_disallowed (binary op a b) = disallowed (of_binary op) (binary op a b)
  first_disallowed (call f ts) = first_disallowed_of ts
  first_disallowed (get_attribute a k) = disallowed of_attribute (get_attribute a k)
  first_disallowed (has_attribute a k) = disallowed of_has (has_attribute a k)
  first_disallowed (extended_has a k ks) = disallowed of_has (extended_has a k ks)
  first_disallowed (like a p) = disallowed of_like (like a p)
  first_disallowed (is_of_type a t) = disallowed of_is (is_of_type a t)
  first_disallowed (set_of ts) = first_disallowed_of ts
  first_disallowed (record_of fs) = first_disallowed_at fs

  pub first_disallowed_of : Terms → Option Disallowed
  first_disallowed_of no_terms = None
  first_disallowed_of (one_term t ts) = or_else (first_disallowed t) (first_disallowed_of ts)

  pub first_disallowed_at : Fields → Option Disallowed
  first_disallowed_at no_fields = None
  first_disallowed_at (one_field k t fs) = or_else (first_disallowed t) (first_disallowed_at fs)

-- the feature of a node that is disallowed
unfoldable pub feature_of : Term → Option Feature
feature_of (literal l) = None
feature_of (variable v) = Some of_variable
feature_of (slot i) = Some of_slot
feature_of (unknown n t) = None
feature_of (if_then_else c a b) = Some of_if
feature_of (both a b) = Some of_and
feature_of (either a b) = Some of_or
feature_of (unary op a) = Some (of_unary op)
feature_of (binary op a b) = Some (of_binary op)
feature_of (call f ts) = None
feature_of (get_attribute a k) = Some of_attribute
feature_of (has_attribute a k) = Some of_has
feature_of (extended_has a k ks) = Some of_has
feature_of (like a p) = Some of_like
feature_of (is_of_type a t) = Some of_is
feature_of (set_of ts) = None
feature_of (record_of fs) = None

-- a part of an expression, but not itself
abbrev mutual
  pub IsPartBelow : Term → Term → Type 0
  IsPartBelow p (literal l) = ⊥
  IsPartBelow p (variable v) = ⊥
  IsPartBelow p (slot i) = ⊥
  IsPartBelow p (unknown n t) = ⊥
  IsPartBelow p (if_then_else c a b) =
      ((p ≡ c) ⊎ IsPartBelow p c) ⊎ (((p ≡ a) ⊎ IsPartBelow p a) ⊎ ((p ≡ b) ⊎ IsPartBelow p b))
  IsPartBelow p (both a b) = ((p ≡ a) ⊎ IsPartBelow p a) ⊎ ((p ≡ b) ⊎ IsPartBelow p b)
  IsPartBelow p (either a b) = ((p ≡ a) ⊎ IsPartBelow p a) ⊎ ((p ≡ b) ⊎ IsPartBelow p b)
  IsPartBelow p (unary op a) = (p ≡ a) ⊎ IsPartBelow p a
  IsPartBelow p (binary op a b) = ((p ≡ a) ⊎ IsPartBelow p a) ⊎ ((p ≡ b) ⊎ IsPartBelow p b)
  IsPartBelow p (call f ts) = IsPartOfEach p ts
  IsPartBelow p (get_attribute a k) = (p ≡ a) ⊎ IsPartBelow p a
  IsPartBelow p (has_attribute a k) = (p ≡ a) ⊎ IsPartBelow p a
  IsPartBelow p (extended_has a k ks) = (p ≡ a) ⊎ IsPartBelow p a
  IsPartBelow p (like a q) = (p ≡ a) ⊎ IsPartBelow p a
  IsPartBelow p (is_of_type a t) = (p ≡ a) ⊎ IsPartBelow p a
  IsPartBelow p (set_of ts) = IsPartOfEach p ts
  IsPartBelow p (record_of fs) = IsPartAt p fs

  pub IsPartOfEach : Term → Terms → Type 0
  IsPartOfEach p no_terms = ⊥
  IsPartOfEach p (one_term t ts) = ((p ≡ t) ⊎ IsPartBelow p t) ⊎ IsPartOfEach p ts

  pub IsPartAt : Term → Fields → Type 0
  IsPartAt p no_fields = ⊥
  IsPartAt p (one_field k t fs) = ((p ≡ t) ⊎ IsPartBelow p t) ⊎ IsPartAt p fs

-- a part of an expression, or itself
abbrev pub IsPartOf : Term → Term → Type 0
IsPartOf p t = (p ≡ t) ⊎ IsPartBelow p t
