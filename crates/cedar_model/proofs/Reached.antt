-- Each expression has an answer at some level, where the functions that exist answer, and never by the limit.
use Rattle.std.specs.Prelude.{◌≡◌, true, [], Ok}
use Rattle.std.proofs.Common.{refl, inl, inr}
use Rattle.std.proofs.lemmas.Bool.{and_parts}
use Rattle.cedar_model.specs.Terms.{Term, literal, variable, slot, unknown, if_then_else, both, either, unary}
use Rattle.cedar_model.specs.Terms.{binary, call, get_attribute, has_attribute, extended_has, like, is_of_type}
use Rattle.cedar_model.specs.Terms.{set_of, record_of, Terms, no_terms, one_term, Fields, no_fields, one_field}
use Rattle.cedar_model.specs.Shapes.{is_projectable, are_projectable, are_projectable_at, is_restricted}
use Rattle.cedar_model.specs.Shapes.{are_restricted, are_restricted_at}
use Rattle.cedar_model.specs.Failures.{Answer}
use Rattle.cedar_model.specs.Settings.{deep, Setting}
use Rattle.cedar_model.specs.Agreement.{EachStored, IsRestrictedPart}
use Rattle.cedar_model.specs.Rules
use Rattle.cedar_model.specs.laws.Levels.{FunctionsAnswer, FunctionsMeetNoLimit}
use Rattle.cedar_model.proofs.PartLimits as limits
use Rattle.cedar_model.proofs.MoreLevels.{rule_is_allowed}
use Rattle.cedar_model.proofs.Resolving.{IsStored, each_stored}
use Rattle.cedar_model.proofs.Total

module _ (s : Setting) (calls : Rules.StoredCalls) (callable : FunctionsAnswer calls s.extensions.arity)
    (answered : FunctionsMeetNoLimit calls)
    (restricted : s.resolution ≡ deep → EachStored IsRestrictedPart s.store) where
  abbrev Ever : Rules.MayAnswer
  Ever t a = Rules.Allows s calls t a

  abbrev Found : Term → Type 0
  Found t = (a : Answer) × Ever t a

  abbrev Never : Term → Type 0
  Never t = ⊥

  each_none : (ts : Terms) → limits.MeetsEach s calls answered Ever Never (λ t x g q. g.0 q) ts → ⊥
  each_none no_terms h = h
  each_none (one_term t ts) (inl h) = h
  each_none (one_term t ts) (inr h) = each_none ts h

  each_at_none : (fs : Fields) → limits.MeetsEachAt s calls answered Ever Never (λ t x g q. g.0 q) fs → ⊥
  each_at_none no_fields h = h
  each_at_none (one_field k t fs) (inl h) = h
  each_at_none (one_field k t fs) (inr h) = each_at_none fs h

  stored_none : limits.MeetsStored s calls answered Ever Never (λ t x g q. g.0 q) → ⊥
  stored_none (r, d, i, h) = h

  -- no part meets the limit
  none_meets : (t : Term) → limits.PartMeets s calls answered Ever Never (λ u x g q. g.0 q) t → ⊥
  none_meets (literal l) h = h
  none_meets (variable v) h = h
  none_meets (slot i) h = h
  none_meets (unknown n t) h = h
  none_meets (if_then_else c t e) (inl h) = h
  none_meets (if_then_else c t e) (inr (inl h)) = h
  none_meets (if_then_else c t e) (inr (inr h)) = h
  none_meets (both t u) (inl h) = h
  none_meets (both t u) (inr h) = h
  none_meets (either t u) (inl h) = h
  none_meets (either t u) (inr h) = h
  none_meets (unary op t) h = h
  none_meets (binary op t u) (inl h) = h
  none_meets (binary op t u) (inr (inl h)) = h
  none_meets (binary op t u) (inr (inr h)) = stored_none h
  none_meets (call f ts) h = each_none ts h
  none_meets (get_attribute t k) (inl h) = h
  none_meets (get_attribute t k) (inr (inl h)) = h.meets
  none_meets (get_attribute t k) (inr (inr h)) = stored_none h
  none_meets (has_attribute t k) h = h
  none_meets (extended_has t k ks) (inl h) = h
  none_meets (extended_has t k ks) (inr h) = stored_none h
  none_meets (like t p) h = h
  none_meets (is_of_type t n) h = h
  none_meets (set_of ts) h = each_none ts h
  none_meets (record_of fs) h = each_at_none fs h

  -- an answer by the rules is allowed
  finish : (t : Term) → ((a : Answer) × Rules.Rule s calls Ever t a) → Found t
  finish t (a, r) = (
    a,
    rule_is_allowed s calls t a (λ q. none_meets t (limits.rule_met s calls answered Ever Never
        (λ u x g z. g.0 z) t a r q)) r,
  )

  -- a projectable expression has an answer
  mutual
    plain : (t : Term) → is_projectable t ≡ true → Found t
    plain (literal l) h = finish (literal l) (_, refl)
    plain (variable v) h = finish (variable v) (_, refl)
    plain (slot i) h = absurd (cc)
    plain (unknown n t) h = finish (unknown n t) (_, refl)
    plain (if_then_else c t e) h = absurd (cc)
    plain (both t u) h = absurd (cc)
    plain (either t u) h = absurd (cc)
    plain (unary op t) h = absurd (cc)
    plain (binary op t u) h = absurd (cc)
    plain (call f ts) h = absurd (cc)
    plain (get_attribute t k) h = absurd (cc)
    plain (has_attribute t k) h = absurd (cc)
    plain (extended_has t k ks) h = absurd (cc)
    plain (like t p) h = absurd (cc)
    plain (is_of_type t n) h = absurd (cc)
    plain (set_of ts) h = let r = plain_each ts h in finish (set_of ts) (_, (r.0, r.1, refl))
    plain (record_of fs) h = let r = plain_each_at fs h in finish (record_of fs) (_, (r.0, r.1, refl))

    plain_each : (ts : Terms) → are_projectable ts ≡ true → Total.FoundEach s calls callable Ever ts
    plain_each no_terms h = (Ok [], refl)
    plain_each (one_term t ts) h =
        Total.one_total s calls callable Ever t ts (plain t (and_parts _ _ h).0) (plain_each ts (and_parts _ _ h).1)

    plain_each_at : (fs : Fields) → are_projectable_at fs ≡ true → Total.FoundEachAt s calls callable Ever fs
    plain_each_at no_fields h = (Ok [], refl)
    plain_each_at (one_field k t fs) h =
        Total.one_at_total s calls callable Ever k t fs (plain t (and_parts _ _ h).0)
        (plain_each_at fs (and_parts _ _ h).1)

  -- and so has a restricted one
  mutual
    held : (t : Term) → is_restricted t ≡ true → Found t
    held (literal l) h = finish (literal l) (_, refl)
    held (variable v) h = absurd (cc)
    held (slot i) h = absurd (cc)
    held (unknown n t) h = finish (unknown n t) (_, refl)
    held (if_then_else c t e) h = absurd (cc)
    held (both t u) h = absurd (cc)
    held (either t u) h = absurd (cc)
    held (unary op t) h = absurd (cc)
    held (binary op t u) h = absurd (cc)
    held (call f ts) h = finish (call f ts) (Total.call_total s calls callable Ever f ts (held_each ts h))
    held (get_attribute t k) h = absurd (cc)
    held (has_attribute t k) h = absurd (cc)
    held (extended_has t k ks) h = absurd (cc)
    held (like t p) h = absurd (cc)
    held (is_of_type t k) h = absurd (cc)
    held (set_of ts) h = let r = held_each ts h in finish (set_of ts) (_, (r.0, r.1, refl))
    held (record_of fs) h = let r = held_each_at fs h in finish (record_of fs) (_, (r.0, r.1, refl))

    held_each : (ts : Terms) → are_restricted ts ≡ true → Total.FoundEach s calls callable Ever ts
    held_each no_terms h = (Ok [], refl)
    held_each (one_term t ts) h =
        Total.one_total s calls callable Ever t ts (held t (and_parts _ _ h).0)
        (held_each ts (and_parts (is_restricted t) (are_restricted ts) h).1)

    held_each_at : (fs : Fields) → are_restricted_at fs ≡ true → Total.FoundEachAt s calls callable Ever fs
    held_each_at no_fields h = (Ok [], refl)
    held_each_at (one_field k t fs) h =
        Total.one_at_total s calls callable Ever k t fs (held t (and_parts _ _ h).0)
        (held_each_at fs (and_parts (is_restricted t) (are_restricted_at fs) h).1)

  stored : (t : Term) → s.resolution ≡ deep → IsStored s.store t → Found t
  stored t d i = held t (each_stored IsRestrictedPart s.store (restricted d) t i)

  mutual
    pub reached : (t : Term) → Found t
    reached (literal l) = finish (literal l) (_, refl)
    reached (variable v) = finish (variable v) (_, refl)
    reached (slot i) = finish (slot i) (_, refl)
    reached (unknown n t) = finish (unknown n t) (_, refl)
    reached (if_then_else c t e) =
        finish (if_then_else c t e) (Total.if_total s calls callable Ever c t e (reached c) (reached t) (reached e))
    reached (both t u) = finish (both t u) (Total.both_total s calls callable Ever t u (reached t) (reached u))
    reached (either t u) = finish (either t u) (Total.either_total s calls callable Ever t u (reached t) (reached u))
    reached (unary op t) = let x = reached t in finish (unary op t) (_, (x.0, x.1, refl))
    reached (binary op t u) =
        finish (binary op t u) (Total.binary_total s calls callable Ever stored op t u (reached t) (reached u))
    reached (call f ts) = finish (call f ts) (Total.call_total s calls callable Ever f ts (reached_each ts))
    reached (get_attribute t k) =
        finish (get_attribute t k) (Total.get_total s calls callable Ever stored plain t k (reached t))
    reached (has_attribute t k) = let x = reached t in finish (has_attribute t k) (_, (x.0, x.1, refl))
    reached (extended_has t k ks) =
        finish (extended_has t k ks) (Total.extended_total s calls callable Ever stored t k ks (reached t))
    reached (like t p) = let x = reached t in finish (like t p) (_, (x.0, x.1, refl))
    reached (is_of_type t n) = let x = reached t in finish (is_of_type t n) (_, (x.0, x.1, refl))
    reached (set_of ts) = let r = reached_each ts in finish (set_of ts) (_, (r.0, r.1, refl))
    reached (record_of fs) = let r = reached_each_at fs in finish (record_of fs) (_, (r.0, r.1, refl))

    reached_each : (ts : Terms) → Total.FoundEach s calls callable Ever ts
    reached_each no_terms = (Ok [], refl)
    reached_each (one_term t ts) = Total.one_total s calls callable Ever t ts (reached t) (reached_each ts)

    reached_each_at : (fs : Fields) → Total.FoundEachAt s calls callable Ever fs
    reached_each_at no_fields = (Ok [], refl)
    reached_each_at (one_field k t fs) =
        Total.one_at_total s calls callable Ever k t fs (reached t) (reached_each_at fs)
