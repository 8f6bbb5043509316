-- The first disallowed part is a part of its expression, with the feature of its node.
use Rattle.std.specs.Prelude.{◌≡◌, ◌⊎◌, Option, Some, None}
use Rattle.std.proofs.Common.{refl, subst, inl, inr}
use Rattle.cedar_model.specs.Terms.{Term, literal, variable, slot, unknown, if_then_else, both, either, unary, binary}
use Rattle.cedar_model.specs.Terms.{call, get_attribute, has_attribute, extended_has, like, is_of_type, set_of}
use Rattle.cedar_model.specs.Terms.{record_of, Terms, no_terms, one_term, Fields, no_fields, one_field}
use Rattle.cedar_model.specs.Restricted.{Feature, Disallowed, disallowed, or_else, first_disallowed}
use Rattle.cedar_model.specs.Restricted.{first_disallowed_of, first_disallowed_at, feature_of, IsPartOf, IsPartBelow}
use Rattle.cedar_model.specs.Restricted.{IsPartOfEach, IsPartAt}
use Rattle.cedar_model.proofs.Injections.{some_inj}

abbrev Right : Term → Disallowed → Type 0
Right t d = IsPartOf d.part t × (feature_of d.part ≡ Some d.feature)

abbrev RightBelow : (Disallowed → Type 0) → Disallowed → Type 0
RightBelow Below d = Below d × (feature_of d.part ≡ Some d.feature)

node_right : (f : Feature) (t : Term) (d : Disallowed) → feature_of t ≡ Some f → disallowed f t ≡ Some d → Right t d
node_right f t d e h = subst (Right t) (some_inj h) (inl refl, e)

below : (t : Term) (d : Disallowed) → IsPartBelow d.part t × (feature_of d.part ≡ Some d.feature) → Right t d
below t d (h, e) = (inr h, e)

either_right : (a b : Option Disallowed) (d : Disallowed) (A B : Disallowed → Type 0) → or_else a b ≡ Some d
    → (a ≡ Some d → RightBelow A d) → (b ≡ Some d → RightBelow B d) → RightBelow (λ x. A x ⊎ B x) d
unfolding or_else
either_right None b d A B h f g = let k = g h in (inr k.0, k.1)
either_right (Some x) b d A B h f g = let k = f h in (inl k.0, k.1)

mutual
  unfolding first_disallowed feature_of

  pub disallowed_part : (t : Term) (d : Disallowed) → first_disallowed t ≡ Some d → Right t d
  disallowed_part (literal l) d h = absurd (cc)
  disallowed_part (variable v) d h = node_right _ (variable v) d refl h
  disallowed_part (slot i) d h = node_right _ (slot i) d refl h
  disallowed_part (unknown n t) d h = absurd (cc)
  disallowed_part (if_then_else c a b) d h = node_right _ (if_then_else c a b) d refl h
  disallowed_part (both a b) d h = node_right _ (both a b) d refl h
  disallowed_part (either a b) d h = node_right _ (either a b) d refl h
  disallowed_part (unary op a) d h = node_right _ (unary op a) d refl h
  disallowed_part (binary op a b) d h = node_right _ (binary op a b) d refl h
  disallowed_part (call f ts) d h = below (call f ts) d (disallowed_each ts d h)
  disallowed_part (get_attribute a k) d h = node_right _ (get_attribute a k) d refl h
  disallowed_part (has_attribute a k) d h = node_right _ (has_attribute a k) d refl h
  disallowed_part (extended_has a k ks) d h = node_right _ (extended_has a k ks) d refl h
  disallowed_part (like a p) d h = node_right _ (like a p) d refl h
  disallowed_part (is_of_type a t) d h = node_right _ (is_of_type a t) d refl h
  disallowed_part (set_of ts) d h = below (set_of ts) d (disallowed_each ts d h)
  disallowed_part (record_of fs) d h = below (record_of fs) d (disallowed_at fs d h)

  disallowed_each : (ts : Terms) (d : Disallowed) → first_disallowed_of ts ≡ Some d
      → RightBelow (λ x. IsPartOfEach x.part ts) d
  disallowed_each no_terms d h = absurd (cc)
  disallowed_each (one_term t ts) d h =
      either_right (first_disallowed t) (first_disallowed_of ts) d (λ x. IsPartOf x.part t)
      (λ x. IsPartOfEach x.part ts) h (disallowed_part t d) (disallowed_each ts d)

  disallowed_at : (fs : Fields) (d : Disallowed) → first_disallowed_at fs ≡ Some d
      → RightBelow (λ x. IsPartAt x.part fs) d
  disallowed_at no_fields d h = absurd (cc)
  disallowed_at (one_field k t fs) d h =
      either_right (first_disallowed t) (first_disallowed_at fs) d (λ x. IsPartOf x.part t) (λ x. IsPartAt x.part fs) h
      (disallowed_part t d) (disallowed_at fs d)
