-- How high an answer can be, and with it the need.
use Rattle.std.specs.Prelude.{◌≡◌, ℕ, suc, ◌+◌, ◌<◌, ◌≤◌, true, false, ◌&&◌}
use Rattle.std.specs.Prelude.{Option, Some, None}
use Rattle.std.proofs.Common.{refl, ap, arith}
use Rattle.std.proofs.lemmas.Bool.{and_parts, or_parts, or_from}
use Rattle.cedar_model.specs.Terms.{Text}
use Rattle.cedar_model.specs.Terms.{ValueType, Term, literal, variable, slot, unknown}
use Rattle.cedar_model.specs.Terms.{if_then_else, both, either, unary, binary, call, get_attribute, has_attribute}
use Rattle.cedar_model.specs.Terms.{extended_has, like, is_of_type, set_of, record_of, Terms, no_terms, one_term}
use Rattle.cedar_model.specs.Terms.{Fields, no_fields, one_field}
use Rattle.cedar_model.specs.Values.{Represented, plain_represented, set_represented, record_represented}
use Rattle.cedar_model.specs.Values.{extension_represented, RepresentedValues, no_represented, one_represented}
use Rattle.cedar_model.specs.Values.{RepresentedFields, no_represented_at, one_represented_at}
use Rattle.cedar_model.specs.Values.{expression_of, expressions_of, expressions_at}
use Rattle.cedar_model.specs.Shapes.{is_projectable, are_projectable, are_projectable_at, is_restricted}
use Rattle.cedar_model.specs.Shapes.{are_restricted, are_restricted_at, has_unknown, have_unknown, have_unknown_at}
use Rattle.cedar_model.specs.Agreement.{height, greatest_height, greatest_height_at}
use Rattle.cedar_model.specs.Chains.{Mapping, value_for, substituted, substituted_each, substituted_at}
use Rattle.cedar_model.specs.Restricted.{IsSound, AreSound, AreSoundAt}

-- ---- values

mutual
  pub sound_known : (v : Represented) → IsSound v → has_unknown (expression_of v) ≡ false
  sound_known (plain_represented l) h = refl
  sound_known (set_represented vs) h = sound_each vs h.1
  sound_known (record_represented fs) h = sound_each_at fs h
  sound_known (extension_represented t k f ts) h = h.1

  sound_each : (vs : RepresentedValues) → AreSound vs → have_unknown (expressions_of vs) ≡ false
  sound_each no_represented h = refl
  sound_each (one_represented v vs) h = or_from _ _ (sound_known v h.0) (sound_each vs h.1)

  sound_each_at : (fs : RepresentedFields) → AreSoundAt fs → have_unknown_at (expressions_at fs) ≡ false
  sound_each_at no_represented_at h = refl
  sound_each_at (one_represented_at k v fs) h = or_from _ _ (sound_known v h.0) (sound_each_at fs h.1)

-- a value whose expression is projectable is written without calls
mutual
  pub value_plain : (v : Represented) → is_projectable (expression_of v) ≡ true →
      is_restricted (expression_of v) ≡ true
  value_plain (plain_represented l) h = refl
  value_plain (set_represented vs) h = values_plain vs h
  value_plain (record_represented fs) h = fields_plain fs h
  value_plain (extension_represented t k f ts) h = absurd (cc)

  values_plain : (vs : RepresentedValues) → are_projectable (expressions_of vs) ≡ true →
      are_restricted (expressions_of vs) ≡ true
  values_plain no_represented h = refl
  values_plain (one_represented v vs) h =
      λ i. value_plain v (and_parts _ _ h).0 i && values_plain vs (and_parts _ _ h).1 i

  fields_plain : (fs : RepresentedFields) → are_projectable_at (expressions_at fs) ≡ true →
      are_restricted_at (expressions_at fs) ≡ true
  fields_plain no_represented_at h = refl
  fields_plain (one_represented_at k v fs) h =
      λ i. value_plain v (and_parts _ _ h).0 i && fields_plain fs (and_parts _ _ h).1 i

-- ---- heights

pub positive : (t : Term) → 0 < height t
positive (literal l) = omega arith
positive (variable v) = omega arith
positive (slot i) = omega arith
positive (unknown n t) = omega arith
positive (if_then_else c t e) = omega arith
positive (both t u) = omega arith
positive (either t u) = omega arith
positive (unary op t) = omega arith
positive (binary op t u) = omega arith
positive (call f ts) = omega arith
positive (get_attribute t k) = omega arith
positive (has_attribute t k) = omega arith
positive (extended_has t k ks) = omega arith
positive (like t p) = omega arith
positive (is_of_type t n) = omega arith
positive (set_of ts) = omega arith
positive (record_of fs) = omega arith

module _ (m : Mapping) where
  -- the height with the map's values in place of their unknowns
  abbrev pub h : Term → ℕ
  h t = height (substituted m t)

  -- without unknowns nothing is substituted
  mutual
    unfolding substituted

    pub stays : (t : Term) → has_unknown t ≡ false → substituted m t ≡ t
    stays (literal l) e = refl
    stays (variable v) e = refl
    stays (slot i) e = refl
    stays (unknown n t) e = absurd (cc)
    stays (if_then_else c t u) e =
        λ i. if_then_else (stays c (or_parts _ _ e).0 i) (stays t (or_parts _ _ (or_parts _ _ e).1).0 i)
        (stays u (or_parts _ _ (or_parts _ _ e).1).1 i)
    stays (both t u) e = λ i. both (stays t (or_parts _ _ e).0 i) (stays u (or_parts _ _ e).1 i)
    stays (either t u) e = λ i. either (stays t (or_parts _ _ e).0 i) (stays u (or_parts _ _ e).1 i)
    stays (unary op t) e = ap (unary op) (stays t e)
    stays (binary op t u) e = λ i. binary op (stays t (or_parts _ _ e).0 i) (stays u (or_parts _ _ e).1 i)
    stays (call f ts) e = ap (call f) (stay ts e)
    stays (get_attribute t k) e = ap (λ x. get_attribute x k) (stays t e)
    stays (has_attribute t k) e = ap (λ x. has_attribute x k) (stays t e)
    stays (extended_has t k ks) e = ap (λ x. extended_has x k ks) (stays t e)
    stays (like t p) e = ap (λ x. like x p) (stays t e)
    stays (is_of_type t n) e = ap (λ x. is_of_type x n) (stays t e)
    stays (set_of ts) e = ap set_of (stay ts e)
    stays (record_of fs) e = ap record_of (stay_at fs e)

    stay : (ts : Terms) → have_unknown ts ≡ false → substituted_each m ts ≡ ts
    stay no_terms e = refl
    stay (one_term t ts) e = λ i. one_term (stays t (or_parts _ _ e).0 i) (stay ts (or_parts _ _ e).1 i)

    stay_at : (fs : Fields) → have_unknown_at fs ≡ false → substituted_at m fs ≡ fs
    stay_at no_fields e = refl
    stay_at (one_field k t fs) e = λ i. one_field k (stays t (or_parts _ _ e).0 i) (stay_at fs (or_parts _ _ e).1 i)

  module _ (b : ℕ) (mapped_low : (n : Text) (v : Represented) → m n ≡ Some v → height (expression_of v) ≤ b) where
    unknown_by : (n : Text) (t : Option ValueType) (o : Option Represented) → m n ≡ o →
        height (value_for o (unknown n t)) ≤ suc b
    unfolding value_for
    unknown_by n t None e = omega arith
    unknown_by n t (Some v) e = let k = mapped_low n v e in omega arith

    pub unknown_low : (n : Text) (t : Option ValueType) → h (unknown n t) ≤ suc b
    unfolding substituted
    unknown_low n t = unknown_by n t (m n) refl

    -- substitution adds no more than the bound
    mutual
      unfolding substituted

      pub added : (t : Term) → h t ≤ height t + b
      added (literal l) = omega arith
      added (variable v) = omega arith
      added (slot i) = omega arith
      added (unknown n t) = let k = unknown_by n t (m n) refl in omega arith
      added (if_then_else c t u) = let x = added c in let y = added t in let z = added u in omega arith
      added (both t u) = let x = added t in let y = added u in omega arith
      added (either t u) = let x = added t in let y = added u in omega arith
      added (unary op t) = let x = added t in omega arith
      added (binary op t u) = let x = added t in let y = added u in omega arith
      added (call f ts) = let x = added_each ts in omega arith
      added (get_attribute t k) = let x = added t in omega arith
      added (has_attribute t k) = let x = added t in omega arith
      added (extended_has t k ks) = let x = added t in omega arith
      added (like t p) = let x = added t in omega arith
      added (is_of_type t n) = let x = added t in omega arith
      added (set_of ts) = let x = added_each ts in omega arith
      added (record_of fs) = let x = added_each_at fs in omega arith

      added_each : (ts : Terms) → greatest_height (substituted_each m ts) ≤ greatest_height ts + b
      added_each no_terms = omega arith
      added_each (one_term t ts) = let x = added t in let y = added_each ts in omega arith

      added_each_at : (fs : Fields) → greatest_height_at (substituted_at m fs) ≤ greatest_height_at fs + b
      added_each_at no_fields = omega arith
      added_each_at (one_field k t fs) = let x = added t in let y = added_each_at fs in omega arith

  unknown_high : (n : Text) (t : Option ValueType) (o : Option Represented) → 1 ≤ height (value_for o (unknown n t))
  unfolding value_for
  unknown_high n t None = omega arith
  unknown_high n t (Some v) = let k = positive (expression_of v) in omega arith

  -- substitution lowers no restricted expression
  mutual
    unfolding substituted

    pub not_lower : (t : Term) → is_restricted t ≡ true → height t ≤ h t
    not_lower (literal l) e = omega arith
    not_lower (variable v) e = absurd (cc)
    not_lower (slot i) e = absurd (cc)
    not_lower (unknown n t) e = let k = unknown_high n t (m n) in omega arith
    not_lower (if_then_else c t u) e = absurd (cc)
    not_lower (both t u) e = absurd (cc)
    not_lower (either t u) e = absurd (cc)
    not_lower (unary op t) e = absurd (cc)
    not_lower (binary op t u) e = absurd (cc)
    not_lower (call f ts) e = let x = not_lower_each ts e in omega arith
    not_lower (get_attribute t k) e = absurd (cc)
    not_lower (has_attribute t k) e = absurd (cc)
    not_lower (extended_has t k ks) e = absurd (cc)
    not_lower (like t p) e = absurd (cc)
    not_lower (is_of_type t n) e = absurd (cc)
    not_lower (set_of ts) e = let x = not_lower_each ts e in omega arith
    not_lower (record_of fs) e = let x = not_lower_each_at fs e in omega arith

    not_lower_each : (ts : Terms) → are_restricted ts ≡ true →
        greatest_height ts ≤ greatest_height (substituted_each m ts)
    not_lower_each no_terms e = omega arith
    not_lower_each (one_term t ts) e =
        let x =
        not_lower t (and_parts _ _ e).0 in let y = not_lower_each ts (and_parts (is_restricted t)
        (are_restricted ts) e).1 in omega arith

    not_lower_each_at : (fs : Fields) → are_restricted_at fs ≡ true →
        greatest_height_at fs ≤ greatest_height_at (substituted_at m fs)
    not_lower_each_at no_fields e = omega arith
    not_lower_each_at (one_field k t fs) e =
        let x =
        not_lower t (and_parts _ _ e).0 in let y = not_lower_each_at fs (and_parts (is_restricted t)
        (are_restricted_at fs) e).1 in omega arith

-- the greater of bounded numbers is bounded
pub lower : (a b c : ℕ) → a ≤ b → b ≤ c → a ≤ c
lower a b c x y = omega arith
