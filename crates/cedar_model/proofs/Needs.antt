-- The need is at most the height and the bound together.
use Rattle.std.specs.Prelude.{◌≡◌, ℕ, zero, suc, ◌+◌, ◌<◌, ◌≤◌, true}
use Rattle.std.proofs.Common.{refl, subst, arith, inl, inr}
use Rattle.std.proofs.lemmas.Bool.{and_parts}
use Rattle.cedar_model.specs.Terms.{Term, literal, variable, slot, unknown, if_then_else, both, either, unary, binary}
use Rattle.cedar_model.specs.Terms.{call, get_attribute, has_attribute, extended_has, like, is_of_type, set_of}
use Rattle.cedar_model.specs.Terms.{record_of, Terms, no_terms, one_term, Fields, no_fields, one_field}
use Rattle.cedar_model.specs.Shapes.{is_restricted, are_restricted, are_restricted_at}
use Rattle.cedar_model.specs.Failures.{Answer, answers, residual, limit}
use Rattle.cedar_model.specs.Settings.{deep, Setting}
use Rattle.cedar_model.specs.Rules
use Rattle.cedar_model.specs.Agreement.{height, greatest_height, greatest_height_at}
use Rattle.cedar_model.specs.Chains.{substituted}
use Rattle.cedar_model.specs.Restricted.{IsGivenSound}
use Rattle.cedar_model.specs.laws.Levels.{FunctionsMeetNoLimit}
use Rattle.cedar_model.specs.Depth.{IsNoHigher, bound_of}
use Rattle.cedar_model.proofs.PartLimits as limits
use Rattle.cedar_model.proofs.RecordParts.{restricted_part}
use Rattle.cedar_model.proofs.Heights as heights
use Rattle.cedar_model.proofs.Heights.{positive}
use Rattle.cedar_model.proofs.Resolving.{IsStored}
use Rattle.cedar_model.proofs.LowParts.{LowAnswer, part_of_record}
use Rattle.cedar_model.proofs.LowAnswers as lows
use Rattle.cedar_model.proofs.LowAnswers.{runs_low}

module _ (s : Setting) (calls : Rules.StoredCalls) (answered : FunctionsMeetNoLimit calls) where
  -- ---- restricted expressions

  module _ (n : ℕ) where
    abbrev LevelsBelow : Term → Type 0
    LevelsBelow t = is_restricted t ≡ true → n < height t

    module _ (ih : (t : Term) (x : Answer) → Rules.Runs s calls n t x → x ≡ limit → LevelsBelow t) where
      each_restricted : (ts : Terms) → limits.MeetsEach s calls answered (Rules.Runs s calls n) LevelsBelow ih ts →
          are_restricted ts ≡ true → n < greatest_height ts
      each_restricted no_terms h p = absurd h
      each_restricted (one_term t ts) (inl h) p = let x = h (and_parts _ _ p).0 in omega arith
      each_restricted (one_term t ts) (inr h) p =
          let x = each_restricted ts h (and_parts (is_restricted t) (are_restricted ts) p).1 in omega arith

      each_restricted_at : (fs : Fields) →
          limits.MeetsEachAt s calls answered (Rules.Runs s calls n) LevelsBelow ih fs → are_restricted_at fs ≡ true →
          n < greatest_height_at fs
      each_restricted_at no_fields h p = absurd h
      each_restricted_at (one_field k t fs) (inl h) p = let x = h (and_parts _ _ p).0 in omega arith
      each_restricted_at (one_field k t fs) (inr h) p =
          let x = each_restricted_at fs h (and_parts (is_restricted t) (are_restricted_at fs) p).1 in omega arith

      restricted_rule : (t : Term) → limits.PartMeets s calls answered (Rules.Runs s calls n) LevelsBelow ih t →
          is_restricted t ≡ true → suc n < height t
      restricted_rule (literal l) h p = absurd h
      restricted_rule (variable v) h p = absurd h
      restricted_rule (slot i) h p = absurd h
      restricted_rule (unknown k t) h p = absurd h
      restricted_rule (if_then_else c t e) h p = absurd (cc)
      restricted_rule (both t u) h p = absurd (cc)
      restricted_rule (either t u) h p = absurd (cc)
      restricted_rule (unary op t) h p = absurd (cc)
      restricted_rule (binary op t u) h p = absurd (cc)
      restricted_rule (call f ts) h p = let x = each_restricted ts h p in omega arith
      restricted_rule (get_attribute t k) h p = absurd (cc)
      restricted_rule (has_attribute t k) h p = absurd (cc)
      restricted_rule (extended_has t k ks) h p = absurd (cc)
      restricted_rule (like t i) h p = absurd (cc)
      restricted_rule (is_of_type t k) h p = absurd (cc)
      restricted_rule (set_of ts) h p = let x = each_restricted ts h p in omega arith
      restricted_rule (record_of fs) h p = let x = each_restricted_at fs h p in omega arith

  pub restricted_need : (n : ℕ) (t : Term) → is_restricted t ≡ true → Rules.Exceeds s calls t n → n < height t
  restricted_need zero t p r = positive t
  restricted_need (suc n) t p r =
      restricted_rule n (λ u x g q i. restricted_need n u i (subst (Rules.Runs s calls n u) q g)) t
      (limits.rule_met s calls answered (Rules.Runs s calls n) (LevelsBelow n) (λ u x g q i. restricted_need n u i
      (subst (Rules.Runs s calls n u) q g)) t limit r refl) p

  -- ---- all expressions

  module _ (b : ℕ) (sound : IsGivenSound calls s) (low : IsNoHigher calls s s.map b) (read : s.resolution ≡ deep →
      (n : ℕ) (t : Term) → IsStored s.store t → (x : Answer) → Rules.Runs s calls n t x →
      LowAnswer s.map b x) where
    module _ (n : ℕ) where
      abbrev Below : Term → Type 0
      Below t = (n < height t + b) × LevelsBelow n t

      module _ (ih : (t : Term) (x : Answer) → Rules.Runs s calls n t x → x ≡ limit → Below t) where
        each_below : (ts : Terms) → limits.MeetsEach s calls answered (Rules.Runs s calls n) Below ih ts →
            n < greatest_height ts + b
        each_below no_terms h = absurd h
        each_below (one_term t ts) (inl h) = let x = h.0 in omega arith
        each_below (one_term t ts) (inr h) = let x = each_below ts h in omega arith

        each_below_at : (fs : Fields) → limits.MeetsEachAt s calls answered (Rules.Runs s calls n) Below ih fs →
            n < greatest_height_at fs + b
        each_below_at no_fields h = absurd h
        each_below_at (one_field k t fs) (inl h) = let x = h.0 in omega arith
        each_below_at (one_field k t fs) (inr h) = let x = each_below_at fs h in omega arith

        -- a stored residual that is read is restricted, so that it needs no more than the bound
        stored_below : limits.MeetsStored s calls answered (Rules.Runs s calls n) Below ih → n < b
        stored_below (r, d, i, x) =
            let y = lows.stored_height s.map s calls b (λ m v e. e) sound low r i in
            let z : n < height r = x.1 (lows.stored_restricted s.map s calls b (λ m v e. e) sound low r i) in
            omega arith

        rule_below : (t : Term) → limits.PartMeets s calls answered (Rules.Runs s calls n) Below ih t →
            suc n < height t + b
        rule_below (literal l) h = absurd h
        rule_below (variable v) h = absurd h
        rule_below (slot i) h = absurd h
        rule_below (unknown k t) h = absurd h
        rule_below (if_then_else c t e) (inl h) = let x = h.0 in omega arith
        rule_below (if_then_else c t e) (inr (inl h)) = let x = h.0 in omega arith
        rule_below (if_then_else c t e) (inr (inr h)) = let x = h.0 in omega arith
        rule_below (both t u) (inl h) = let x = h.0 in omega arith
        rule_below (both t u) (inr h) = let x = h.0 in omega arith
        rule_below (either t u) (inl h) = let x = h.0 in omega arith
        rule_below (either t u) (inr h) = let x = h.0 in omega arith
        rule_below (unary op t) h = let x = h.0 in omega arith
        rule_below (binary op t u) (inl h) = let x = h.0 in omega arith
        rule_below (binary op t u) (inr (inl h)) = let x = h.0 in omega arith
        rule_below (binary op t u) (inr (inr h)) =
            let x = stored_below h in let y = positive t in omega arith
        rule_below (call f ts) h = let x = each_below ts h in omega arith
        rule_below (get_attribute t k) (inl h) = let x = h.0 in omega arith
        rule_below (get_attribute t k) (inr (inr h)) =
            let x = stored_below h in let y = positive t in omega arith
        rule_below (get_attribute t k) (inr (inl h)) =
            let l =
            runs_low s.map s calls b (λ m v e. e) sound low read n t (answers (residual h.whole)) h.answered_whole in
            let p = restricted_part h.whole h.fields k h.part h.is_record h.is_part (l.1 h.projectable) in
            let x : height (substituted s.map h.whole) ≤ height t + b = l.0 in
            let y = part_of_record s.map h.whole k h.fields h.part h.is_record h.is_part in
            let z = heights.not_lower s.map h.part p in
            let i : n < height h.part = h.meets.1 p in
            omega arith
        rule_below (has_attribute t k) h = let x = h.0 in omega arith
        rule_below (extended_has t k ks) (inl h) = let x = h.0 in omega arith
        rule_below (extended_has t k ks) (inr h) =
            let x = stored_below h in let y = positive t in omega arith
        rule_below (like t i) h = let x = h.0 in omega arith
        rule_below (is_of_type t k) h = let x = h.0 in omega arith
        rule_below (set_of ts) h = let x = each_below ts h in omega arith
        rule_below (record_of fs) h = let x = each_below_at fs h in omega arith

    pub need_below : (n : ℕ) (t : Term) → Rules.Exceeds s calls t n → n < height t + b
    need_below zero t r = let x = positive t in omega arith
    need_below (suc n) t r =
        rule_below n (λ u x g q. (
          need_below n u (subst (Rules.Runs s calls n u) q g),
          λ i. restricted_need n u i (subst (Rules.Runs s calls n u) q g),
        )) t (limits.rule_met s calls answered
        (Rules.Runs s calls n) (Below n) (λ u x g q. (
          need_below n u (subst (Rules.Runs s calls n u) q g),
          λ i. restricted_need n u i (subst (Rules.Runs s calls n u) q g),
        )) t limit r refl)

  -- both resolutions
  pub need_bounded : (b : ℕ) → IsGivenSound calls s → IsNoHigher calls s s.map b → (n : ℕ) (t : Term) →
      Rules.Exceeds s calls t n → n < height t + bound_of s.resolution b
  need_bounded b sound low n t g =
      need_below (bound_of s.resolution b) sound (lows.low_by s.map s calls b (λ m v e. e) sound low s.resolution)
      (lows.read_by s.map s calls b (λ m v e. e) sound low s.resolution) n t g
