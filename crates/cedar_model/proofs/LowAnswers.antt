-- An answer is no higher than its expression and the bound; so the need isn't either.
use Rattle.std.specs.Prelude.{◌≡◌, ℕ, zero, suc, ◌+◌, ◌≤◌, true, false}
use Rattle.std.specs.Prelude.{List, Option, Some, None}
use Rattle.std.proofs.Common.{refl, ap, subst, sym, ◌∙◌, arith}
use Rattle.std.proofs.lemmas.Bool.{and_parts}
use Rattle.cedar_model.specs.Terms.{Text}
use Rattle.cedar_model.specs.Terms.{ValueType}
use Rattle.cedar_model.specs.Terms.{Term, literal, variable, slot, unknown, if_then_else}
use Rattle.cedar_model.specs.Terms.{both, either, unary, binary, call, get_attribute, has_attribute, extended_has}
use Rattle.cedar_model.specs.Terms.{like, is_of_type, set_of, record_of, Terms, no_terms, one_term, Fields}
use Rattle.cedar_model.specs.Terms.{no_fields, one_field}
use Rattle.cedar_model.specs.Values.{Represented}
use Rattle.cedar_model.specs.Values.{expression_of}
use Rattle.cedar_model.specs.Shapes.{is_projectable, are_projectable, are_projectable_at, is_restricted}
use Rattle.cedar_model.specs.Shapes.{are_restricted, are_restricted_at}
use Rattle.cedar_model.specs.Failures.{PartialValue, Answer, answers}
use Rattle.cedar_model.specs.Failures.{limit, part_expression}
use Rattle.cedar_model.specs.Settings.{ContextPart, absent_context, known_context}
use Rattle.cedar_model.specs.Settings.{residual_context, Resolution, shallow, deep, Setting}
use Rattle.cedar_model.specs.Operators
use Rattle.cedar_model.specs.Rules
use Rattle.cedar_model.specs.Agreement.{height, greatest_height, greatest_height_at, no_slots}
use Rattle.cedar_model.specs.Chains.{Mapping, value_for, substituted, substituted_each, substituted_at, with_context}
use Rattle.cedar_model.specs.Restricted.{IsSound, IsSoundPart, IsSoundContext, IsGivenSound}
use Rattle.cedar_model.specs.Depth.{IsNoHigher, IsContextNoHigher, IsWithin, substituted_height, bound_of}
use Rattle.cedar_model.proofs.RestrictedAnswers.{reads_nothing, substituted_at_restricted}
use Rattle.cedar_model.proofs.Resolving.{IsStored, each_stored}
use Rattle.cedar_model.proofs.Heights as heights
use Rattle.cedar_model.proofs.Heights.{value_plain}
use Rattle.cedar_model.proofs.Injections.{none_is_not_some}
use Rattle.cedar_model.proofs.LowParts
use Rattle.cedar_model.proofs.LowParts.{raise, low_expression, by_equal, set_low, record_low, AnswersLow, EachAnswersLow, EachAnswersLowAt}
use Rattle.cedar_model.proofs.LowOperands.{mapped_stays, mapped_unknown}
use Rattle.cedar_model.proofs.LowLayers.{parts_low, field_parts_low, rule_low}

module _ (m : Mapping) where
  abbrev h : Term → ℕ
  h t = height (substituted m t)

  abbrev Low : ℕ → Term → Type 0
  Low = LowParts.Low m

  abbrev LowValue : ℕ → Represented → Type 0
  LowValue = LowParts.LowValue m

  abbrev LowAnswer : ℕ → Answer → Type 0
  LowAnswer = LowParts.LowAnswer m

  abbrev LowPart : ℕ → PartialValue → Type 0
  LowPart = LowParts.LowPart m

  module _ (s : Setting) (calls : Rules.StoredCalls) (b : ℕ) (within : IsWithin s.map m)
      (sound : IsGivenSound calls s) (low : IsNoHigher calls s m b) where
    -- ---- levels

    plain_unknown : (k : Text) (t : Option ValueType) →
        LowAnswer (h (unknown k t)) (Operators.unknown_answer s.map k t)
    unfolding substituted value_for
    plain_unknown k t =
        mapped_unknown m s calls b within sound low (h (unknown k t)) k t (λ v e. (
          let x = mapped_stays m s calls b within sound low k v e in by v e x,
          value_plain v,
        )) (omega arith, λ p. refl)
      where
        by : (v : Represented) → s.map k ≡ Some v → h (expression_of v) ≡ height (expression_of v) →
            h (expression_of v) ≤ h (unknown k t)
        by v e x =
            let y : height (expression_of v) ≡ h (unknown k t) =
            ap (λ o. height (value_for o (unknown k t))) (sym (within k v e)) in
            omega arith

    mutual
      unfolding substituted

      plain_low : (n : ℕ) (t : Term) → is_projectable t ≡ true → is_restricted t ≡ true →
          AnswersLow m (Rules.Runs s calls n) (h t) t
      plain_low zero t p q x g = by_equal m (h t) x limit g tt
      plain_low (suc n) (literal l) p q x g = by_equal m _ x _ g (omega arith, λ i. refl)
      plain_low (suc n) (variable v) p q x g = absurd (cc)
      plain_low (suc n) (slot i) p q x g = absurd (cc)
      plain_low (suc n) (unknown k t) p q x g = by_equal m _ x _ g (plain_unknown k t)
      plain_low (suc n) (if_then_else c t e) p q x g = absurd (cc)
      plain_low (suc n) (both t u) p q x g = absurd (cc)
      plain_low (suc n) (either t u) p q x g = absurd (cc)
      plain_low (suc n) (unary op t) p q x g = absurd (cc)
      plain_low (suc n) (binary op t u) p q x g = absurd (cc)
      plain_low (suc n) (call f ts) p q x g = absurd (cc)
      plain_low (suc n) (get_attribute t k) p q x g = absurd (cc)
      plain_low (suc n) (has_attribute t k) p q x g = absurd (cc)
      plain_low (suc n) (extended_has t k ks) p q x g = absurd (cc)
      plain_low (suc n) (like t i) p q x g = absurd (cc)
      plain_low (suc n) (is_of_type t k) p q x g = absurd (cc)
      plain_low (suc n) (set_of ts) p q x (r, g, e) =
          by_equal m _ x _ e (set_low m _ r (parts_low m s calls b within sound low (Rules.Runs s calls n) _ ts r
          (plain_each n (greatest_height (substituted_each m ts)) ts p q (omega arith)) g))
      plain_low (suc n) (record_of fs) p q x (r, g, e) =
          by_equal m _ x _ e (record_low m _ r (field_parts_low m s calls b within sound low (Rules.Runs s calls n) _ fs r
          (plain_each_at n (greatest_height_at (substituted_at m fs)) fs p q (omega arith)) g))

      plain_each : (n k : ℕ) (ts : Terms) → are_projectable ts ≡ true → are_restricted ts ≡ true →
          greatest_height (substituted_each m ts) ≤ k → EachAnswersLow m (Rules.Runs s calls n) k ts
      plain_each n k no_terms p q e = tt
      plain_each n k (one_term t ts) p q e = (
        λ x g. raise m (h t) k (omega arith) x (plain_low n t (and_parts _ _ p).0 (and_parts _ _ q).0 x g),
        plain_each n k ts (and_parts _ _ p).1 (and_parts _ _ q).1 (omega arith),
      )

      plain_each_at : (n k : ℕ) (fs : Fields) → are_projectable_at fs ≡ true → are_restricted_at fs ≡ true →
          greatest_height_at (substituted_at m fs) ≤ k → EachAnswersLowAt m (Rules.Runs s calls n) k fs
      plain_each_at n k no_fields p q e = tt
      plain_each_at n k (one_field l t fs) p q e = (
        λ x g. raise m (h t) k (omega arith) x (plain_low n t (and_parts _ _ p).0 (and_parts _ _ q).0 x g),
        plain_each_at n k fs (and_parts _ _ p).1 (and_parts _ _ q).1 (omega arith),
      )

    -- an answer is no higher than its expression and the bound, where no stored residual that is read answers more
    pub runs_low : (s.resolution ≡ deep → (n : ℕ) (t : Term) → IsStored s.store t →
        AnswersLow m (Rules.Runs s calls n) b t) →
        (n : ℕ) (t : Term) (a : Answer) → Rules.Runs s calls n t a → LowAnswer (height t + b) a
    runs_low read zero t a g = by_equal m (height t + b) a limit g tt
    runs_low read (suc n) t a g =
        rule_low m s calls b within sound low (Rules.Runs s calls n) (runs_low read n) (plain_low n) (λ d. read d n) t a g

  -- ---- restricted expressions: they read nothing

  module _ (s : Setting) (calls : Rules.StoredCalls) (b : ℕ) (within : IsWithin s.map m)
      (mapped_sound : (n : Text) (v : Represented) → s.map n ≡ Some v → IsSound v)
      (answers_sound : (f : Text) (vs : List Represented) (p : PartialValue) → calls f vs (answers p) → IsSoundPart p)
      (mapped_low : (n : Text) (v : Represented) → m n ≡ Some v → height (expression_of v) ≤ b)
      (answers_low : (f : Text) (vs : List Represented) (p : PartialValue) → calls f vs (answers p) →
      substituted_height m p ≤ b) where
    abbrev bare : Setting
    bare = record {
      request = with_context s.request absent_context;
      store = record { entity = λ e. None; is_partial = false };
      map = s.map;
      slots = no_slots;
      extensions = s.extensions;
      resolution = shallow;
    }

    pub restricted_low : (n : ℕ) (t : Term) (a : Answer) → is_restricted t ≡ true → Rules.Runs s calls n t a →
        LowAnswer (height t + b) a
    restricted_low n t a p g =
        runs_low bare calls b within record {
          context_sound = tt;
          stored_sound = λ e x k q f. absurd (none_is_not_some f);
          mapped_sound = mapped_sound;
          answers_sound = answers_sound;
        } record {
          context_low = tt;
          stored_low = λ e x k q f. absurd (none_is_not_some f);
          mapped_low = mapped_low;
          answers_low = answers_low;
        } (λ d. absurd (isn't_deep d)) n t a (reads_nothing s bare calls refl refl n t a p g)
      where
        isn't_deep : shallow ≡ deep → ⊥
        isn't_deep e = cc

    -- of a bounded height, at most twice the bound
    pub restricted_twice : (n : ℕ) (t : Term) (a : Answer) → is_restricted t ≡ true → height t ≤ b →
        Rules.Runs s calls n t a → LowAnswer (b + b) a
    restricted_twice n t a p e g = raise m (height t + b) (b + b) (omega arith) a (restricted_low n t a p g)

  -- ---- both resolutions

  module _ (s : Setting) (calls : Rules.StoredCalls) (b : ℕ) (within : IsWithin s.map m)
      (sound : IsGivenSound calls s) (low : IsNoHigher calls s m b) where
    -- a stored residual is restricted, and no higher than the bound
    pub stored_restricted : (t : Term) → IsStored s.store t → is_restricted t ≡ true
    stored_restricted t i = each_stored IsSoundPart s.store sound.stored_sound t i

    pub stored_height : (t : Term) → IsStored s.store t → height t ≤ b
    unfolding part_expression
    stored_height t i =
        let x : h t ≤ b = each_stored (λ p. substituted_height m p ≤ b) s.store low.stored_low t i in
        let y = heights.not_lower m t (stored_restricted t i) in
        omega arith

    pub stored_twice : (n : ℕ) (t : Term) → IsStored s.store t → (a : Answer) → Rules.Runs s calls n t a →
        LowAnswer (b + b) a
    stored_twice n t i a g =
        restricted_twice s calls b within sound.mapped_sound sound.answers_sound low.mapped_low low.answers_low n t a
        (stored_restricted t i) (stored_height t i) g

    twice_low : (c : ContextPart) → IsContextNoHigher m b c → IsContextNoHigher m (b + b) c
    twice_low absent_context f = tt
    twice_low (known_context fs) f = omega arith
    twice_low (residual_context fs) f = omega arith

    pub twice : IsNoHigher calls s m (b + b)
    twice = record {
      context_low = twice_low s.request.context_part low.context_low;
      stored_low =
          λ e x k p f. (
            λ g. let y = (low.stored_low e x k p f).0 g in omega arith,
            λ g. let y = (low.stored_low e x k p f).1 g in omega arith,
          );
      mapped_low = λ n v f. let y = low.mapped_low n v f in omega arith;
      answers_low = λ f vs p g. let y = low.answers_low f vs p g in omega arith;
    }

    pub low_by : (r : Resolution) → IsNoHigher calls s m (bound_of r b)
    unfolding bound_of
    low_by shallow = low
    low_by deep = twice

    pub read_by : (r : Resolution) → r ≡ deep → (n : ℕ) (t : Term) → IsStored s.store t → (a : Answer) →
        Rules.Runs s calls n t a → LowAnswer (bound_of r b) a
    unfolding bound_of
    read_by shallow d n t i = absurd (cc)
    read_by deep d n t i = stored_twice n t i

    pub answers_low : (t : Term) (p : PartialValue) → Rules.Allows s calls t (answers p) →
        substituted_height m p ≤ height t + bound_of s.resolution b
    answers_low t p (ne, n, g) =
        (low_expression m (height t + bound_of s.resolution b) p (runs_low s calls (bound_of s.resolution b) within sound
        (low_by s.resolution) (read_by s.resolution) n t (answers p) g)).0

    -- a substituted context is no higher than the bound, and so at most twice as high when it is interpreted
    pub contexts_low : (s.resolution ≡ deep → (n : Text) (v : Represented) → m n ≡ Some v → IsSound v) →
        (fs : Fields) (p : PartialValue) → s.request.context_part ≡ residual_context fs →
        Rules.Allows s calls (record_of (substituted_at m fs)) (answers p) → substituted_height m p ≤ b + b
    unfolding substituted
    contexts_low sounds fs p e (ne, n, g) = by s.resolution refl
      where
        x : height (record_of (substituted_at m fs)) ≤ b
        x = subst (IsContextNoHigher m b) e low.context_low

        by : (r : Resolution) → s.resolution ≡ r → substituted_height m p ≤ b + b
        by shallow d =
            let y =
            (low_expression m (height (record_of (substituted_at m fs)) + b) p (runs_low s calls b within sound low
            (λ i. absurd (isn't_deep (sym d ∙ i))) n (record_of (substituted_at m fs)) (answers p) g)).0 in
            let z = x in
            omega arith
          where
            isn't_deep : shallow ≡ deep → ⊥
            isn't_deep i = cc
        by deep d =
            (low_expression m (b + b) p (restricted_twice s calls b within sound.mapped_sound sound.answers_sound
            low.mapped_low low.answers_low n (record_of (substituted_at m fs)) (answers p)
            (substituted_at_restricted m (sounds d) fs (subst IsSoundContext e sound.context_sound)) x g)).0
