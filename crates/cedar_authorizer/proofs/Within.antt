-- The run of a set of policies that looks at some of them, where the others are false.
use Rattle.std.specs.Prelude.{◌≡◌, ◌⊎◌, ℕ, ◌+◌, ◌<◌, ◌≤◌, true, false, ◌||◌, List, [], ◌∷◌, length, map, Option, Some, None, slice_get}
use Rattle.std.proofs.Common.{inl, inr, refl, sym, ap, ◌∙◌, subst, arith, drop, get_or, suc}
use Rattle.std.proofs.Math.Seq.{drop-cons}
use Rattle.std.proofs.lemmas.List.{drop_all}
use Rattle.std.proofs.lemmas.Option.{slice_get_cases, slice_get_within, get_or_from_slice_get}
use Rattle.std.specs.Cmp.Lexicographic.{same_text}
use Rattle.cedar_model.specs.Terms.{Text}
use Rattle.cedar_model.specs.Outcomes.{bool_of, text_eq}
use Rattle.cedar_model.specs.Failures.{answers_bool, fails, out_of_memory}
use Rattle.cedar_model.specs.Settings.{Setting}
use Rattle.cedar_model.specs.Rules.{StoredCalls, Runs}
use Rattle.cedar_model.specs.Policies.{Policy, ErrorHandling}
use Rattle.cedar_model.specs.Responses.{with_slots, decides, decided, decided_bool}
use Rattle.cedar_layers.specs.declared.policies.policy.Policy as layers
use Rattle.cedar_layers.specs.declared.policies.policy_set.PolicySet.{PolicySet}
use Rattle.cedar_layers.specs.Policies.{policy_view, policy_location, condition_term, decides_as, first_repeated, first_repeated_after}
use Rattle.cedar_layers.specs.PolicySets.{stored_policies}
use Rattle.cedar_layers.specs.Scopes.{AreAllBut}
use Rattle.cedar_authorizer.specs.declared.responses.sheet.ConditionOutcome.{ConditionOutcome}
use Rattle.cedar_authorizer.specs.declared.responses.sheet.ConditionOutcome.TheVariants as outcomes
use Rattle.cedar_authorizer.specs.declared.responses.sheet.Sheet.{Sheet}
use Rattle.cedar_authorizer.specs.responses.Sheets.{outcome_view, sheet_view, nothing_noted, noting}
use Rattle.cedar_authorizer.specs.Responding.{considered}
use Rattle.cedar_authorizer.specs.Running.{ComesOutBy, IsLeftAt}
use Rattle.cedar_authorizer.specs.Telling.{IsFalse, deciding_these}
use Rattle.cedar_authorizer.specs.Reaching.{AreFalseBut, is_of_id}
use Rattle.cedar_authorizer.proofs.Distinct.{is_seen, seen_first, seen_later, repeated_weaker, weaker_front}
use Rattle.cedar_authorizer.proofs.Noting.{IsNotedSoFar, noted_none, noted_more, set_ids_apart}
use Rattle.cedar_authorizer.proofs.Placed.{ArePlacedSoFar, none_placed, one_placed}
use Rattle.cedar_authorizer.proofs.Telling.{others_apart}
use Rattle.cedar_model.proofs.Injections.{none_is_not_some, false_is_not_true, true_is_not_false}
use Rattle.cedar_names.specs.EqualityLaws.{text_eq-decides}

abbrev ids_of : List layers.Policy → List Text
ids_of ps = map (λ (p : Policy). p.id) (deciding_these ps)

nil_is_not_cons : {A : Type 0} {x : A} {xs : List A} → [] ≡ x ∷ xs → ⊥
nil_is_not_cons e = cc

same_head : {A : Type 0} {x y : A} {xs ys : List A} → x ∷ xs ≡ y ∷ ys → x ≡ y
same_head e = cc

same_tail : {A : Type 0} {x y : A} {xs ys : List A} → x ∷ xs ≡ y ∷ ys → xs ≡ ys
same_tail e = cc

-- ---- what is left of a list from a place on

module _ {A : Type 0} (xs : List A) (n : ℕ) where
  one_at : (x : A) → slice_get xs n ≡ Some x → drop n xs ≡ x ∷ drop (n + 1) xs
  one_at x e =
      let more : suc n ≡ n + 1 = omega arith in
      drop-cons xs n x (slice_get_within xs n x e)
      ∙ ap (λ y. y ∷ drop (suc n) xs) (get_or_from_slice_get xs n x x e)
      ∙ ap (λ j. x ∷ drop j xs) more

  none_at : slice_get xs n ≡ None → drop n xs ≡ []
  none_at e = by ((slice_get_cases xs n).1)
    where
      by : ((x : A) × (n < length xs) × (slice_get xs n ≡ Some x) × (get_or xs n x ≡ x)) ⊎ ((length xs ≤ n) × (slice_get xs n ≡ None)) → drop n xs ≡ []
      by (inl h) = absurd (none_is_not_some (sym e ∙ h.2))
      by (inr h) = drop_all n xs h.0

-- what holds by an evaluator of a setting, of functions and levels that are these
pub holds_alike : {s z : Setting} {calls others : StoredCalls} {levels limit : ℕ} (P : Setting → StoredCalls → ℕ → Type 0) → s ≡ z → calls ≡ others → levels ≡ limit → P z others limit → P s calls levels
holds_alike {s = s} {calls = calls} {others = others} {limit = limit} P e f n h =
    subst (λ q. P s calls q) (sym n) (subst (λ q. P s q limit) (sym f) (subst (λ q. P q others limit) (sym e) h))

-- ---- the loop

-- the policies before those that are left are noted; those that are left are false, but some, and no two have one id
pub record IsRunSoFar (mode : ErrorHandling) (s : Setting) (calls : StoredCalls) (levels : ℕ) (all : List layers.Policy) (sheet : Sheet) (left some : List layers.Policy) : Type 0 where
  pub noted : IsNotedSoFar mode s calls levels (deciding_these all) sheet (deciding_these left)
  pub placed : ArePlacedSoFar all left sheet
  pub others : AreFalseBut s calls levels left some
  pub apart : first_repeated (ids_of left) ≡ None

false_out : decides false ≡ decided (answers_bool false)
unfolding decided decided_bool bool_of
false_out = refl

module _ (mode : ErrorHandling) (s : Setting) (calls : StoredCalls) (levels : ℕ) where
  pub run_none : (policies : PolicySet) (sheet : Sheet) (left some : List layers.Policy) → sheet_view sheet ≡ nothing_noted → stored_policies policies ≡ left → AreFalseBut s calls levels (stored_policies policies) some
      → IsRunSoFar mode s calls levels (stored_policies policies) sheet left some
  run_none policies sheet left some e same others = record {
    noted = noted_none mode s calls levels (considered policies) sheet (deciding_these left) e (ap deciding_these same);
    placed = none_placed (stored_policies policies) left sheet e same;
    others = subst (λ l. AreFalseBut s calls levels l some) same others;
    apart = subst (λ l. first_repeated (ids_of l) ≡ None) same (set_ids_apart policies);
  }

  module _ (all left rest some : List layers.Policy) (p : layers.Policy) (first : left ≡ p ∷ rest) (old new : Sheet) (before : IsRunSoFar mode s calls levels all old left some) where
    abbrev own : Text
    own = (policy_view p).id

    others_here : AreFalseBut s calls levels (p ∷ rest) some
    others_here = subst (λ l. AreFalseBut s calls levels l some) first before.others

    apart_behind : first_repeated_after (own ∷ []) (ids_of rest) ≡ None
    apart_behind =
        seen_later (is_seen own []) own _ (subst (λ l. first_repeated (ids_of l) ≡ None) first before.apart)

    one_more : (later : List layers.Policy) (o : ConditionOutcome) → ComesOutBy (λ a. Runs (with_slots s (policy_view p).slots) calls levels (condition_term (policy_view p)) a) (outcome_view o) → IsLeftAt (policy_location p) o
        → sheet_view new ≡ noting mode (sheet_view old) (policy_view p) o → AreFalseBut s calls levels rest later → IsRunSoFar mode s calls levels all new rest later
    one_more later o out stands noted others = record {
      noted = noted_more mode s calls levels (deciding_these all) old new (policy_view p) o (deciding_these rest) (deciding_these left) (ap deciding_these first) before.noted out noted;
      placed = one_placed mode all left rest old new p o first before.placed stands noted;
      others = others;
      apart = repeated_weaker (own ∷ []) [] (ids_of rest) (weaker_front [] own) apart_behind;
    }

    -- the first of some is not behind a policy of its id
    not_behind : (q : layers.Policy) (later : List layers.Policy) → text_eq own (policy_view q).id ≡ true → AreFalseBut s calls levels rest (q ∷ later) → ⊥
    not_behind q later same h =
        let t = (policy_view q).id in
        let unseen : (text_eq t own || false) ≡ false =
        seen_first (is_seen t (own ∷ [])) t _ (others_apart (IsFalse s calls levels) (own ∷ []) (deciding_these rest) (deciding_these (q ∷ later)) h apart_behind) in
        let seen : text_eq t own ≡ true = ap (text_eq t) (same_text _ _ (sym same)) ∙ (text_eq-decides t t).1 refl in
        true_is_not_false (ap (λ b. b || false) seen) unseen

    looked : (q : layers.Policy) (later : List layers.Policy) → text_eq own (policy_view q).id ≡ true → AreFalseBut s calls levels (p ∷ rest) (q ∷ later) → AreFalseBut s calls levels rest later
    looked q later same (inl h) = absurd (not_behind q later same h.1)
    looked q later same (inr h) =
        subst (AreAllBut (IsFalse s calls levels) (deciding_these rest)) (sym (same_tail h.1)) h.2

    passed : (later : List layers.Policy) → ((q : layers.Policy) (qs : List layers.Policy) → later ≡ q ∷ qs → text_eq own (policy_view q).id ≡ false) → AreFalseBut s calls levels (p ∷ rest) later
        → IsFalse s calls levels (decides_as (policy_view p)) × AreFalseBut s calls levels rest later
    passed later other (inl h) = h
    passed [] other (inr h) = absurd (nil_is_not_cons h.1)
    passed (q ∷ qs) other (inr h) =
        let same : (policy_view q).id ≡ own = ap (λ (r : Policy). r.id) (same_head h.1) in
        absurd (true_is_not_false (ap (text_eq own) same ∙ (text_eq-decides own own).1 refl) (other q qs refl))

  module _ (all left rest : List layers.Policy) (xs : List layers.Policy) (n : ℕ) (p : layers.Policy) (first : left ≡ p ∷ rest) (old new : Sheet) (before : IsRunSoFar mode s calls levels all old left (drop n xs)) where
    -- a policy of the next one's id
    pub run_looked : (o : ConditionOutcome) → is_of_id (policy_view p).id (slice_get xs n) ≡ true → ComesOutBy (λ a. Runs (with_slots s (policy_view p).slots) calls levels (condition_term (policy_view p)) a) (outcome_view o) → IsLeftAt (policy_location p) o
        → sheet_view new ≡ noting mode (sheet_view old) (policy_view p) o → IsRunSoFar mode s calls levels all new rest (drop (n + 1) xs)
    run_looked o found out stands noted = by (slice_get xs n) refl found
      where
        by : (next : Option layers.Policy) → slice_get xs n ≡ next → is_of_id (policy_view p).id next ≡ true → IsRunSoFar mode s calls levels all new rest (drop (n + 1) xs)
        by (Some q) e same =
            one_more all left rest (drop n xs) p first old new before (drop (n + 1) xs) o out stands noted
            (looked all left rest (drop n xs) p first old new before q (drop (n + 1) xs) same
            (subst (AreFalseBut s calls levels (p ∷ rest)) (one_at xs n q e) (others_here all left rest (drop n xs) p first old new before)))
        by None e same = absurd (false_is_not_true same)

    -- another policy
    pub run_past : is_of_id (policy_view p).id (slice_get xs n) ≡ false → sheet_view new ≡ noting mode (sheet_view old) (policy_view p) (outcomes.Decided false) → IsRunSoFar mode s calls levels all new rest (drop n xs)
    run_past lost noted =
        let h = passed all left rest (drop n xs) p first old new before (drop n xs) (by (slice_get xs n) refl lost) (others_here all left rest (drop n xs) p first old new before) in
        one_more all left rest (drop n xs) p first old new before (drop n xs) (outcomes.Decided false)
        (answers_bool false, h.0, (λ (w : answers_bool false ≡ fails out_of_memory). cc), false_out) tt noted h.1
      where
        by : (next : Option layers.Policy) → slice_get xs n ≡ next → is_of_id (policy_view p).id next ≡ false → (q : layers.Policy) (qs : List layers.Policy) → drop n xs ≡ q ∷ qs → text_eq (policy_view p).id (policy_view q).id ≡ false
        by (Some r) e other q qs here =
            ap (λ (x : layers.Policy). text_eq (policy_view p).id (policy_view x).id) (same_head (sym here ∙ one_at xs n r e)) ∙ other
        by None e other q qs here = absurd (nil_is_not_cons (sym (none_at xs n e) ∙ here))
