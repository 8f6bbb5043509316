-- Lists without one of their elements.
use Rattle.std.proofs.Common.{◌≡◌, ◌⊎◌, inl, inr, refl, sym, ap, ◌∙◌, subst, arith, ℕ, suc, ◌+◌, ◌<◌, ◌≤◌, Bool, true, false, List, [], ◌∷◌, ◌++◌, map, take, drop, length, Result, Ok, Err, IfOk, IfNone, Option, Some, None, option_map}
use Rattle.std.proofs.Math.Nat.{eq-or-lt_of_le}
use Rattle.std.specs.declared.alloc.Global.{Global}
use Rattle.std.specs.declared.vec.Vec.{Vec}
use Rattle.cedar_model.specs.Policies as model
use Rattle.cedar_decisions.specs.declared.decision.Decision.{Decision}
use Rattle.cedar_decisions.specs.Decisions.{decision_view}
use Rattle.cedar_reasons.specs.declared.facts.Fact.{Fact}
use Rattle.cedar_reasons.specs.Facts.{KnownFact, facts_view}
use Rattle.cedar_minimal_reasons.specs.declared.thinning.Trial.{Trial}
use Rattle.cedar_minimal_reasons.specs.Questions.{Question, Answers}
use Rattle.std.proofs.lemmas.List.{drop-map, take-map, map-append}
use Rattle.cedar_minimal_reasons.specs.Reasons.{without, same_decision, IsThinned, fewer_if, IsGiven, IsMinimal, facts_of}
use Rattle.cedar_minimal_reasons.specs.declared.reasons.Reason.{Reason}
use Rattle.cedar_minimal_reasons.specs.declared.thinning.Trial.TheVariants as trials
use Rattle.std.specs.declared.alloc.AllocError.{AllocError}

pub without_map : {A B : Type 0} (f : A → B) (i : ℕ) (xs : List A) → map f (take i xs ++ drop (suc i) xs) ≡ without i (map f xs)
without_map f i xs =
    map-append f (take i xs) (drop (suc i) xs)
    ∙ ap (λ l. l ++ map f (drop (suc i) xs)) (sym (take-map f i xs))
    ∙ ap (λ l. take i (map f xs) ++ l) (sym (drop-map f (suc i) xs))

-- ---- what is answered by some facts

module _ (q : Question) (xs ys : List Fact) (same : xs ≡ ys) (o : Option Decision) where
  pub answers_some : (d : Decision) → o ≡ Some d → Answers q (facts_view xs) (option_map decision_view o) → Answers q (facts_view ys) (Some (decision_view d))
  answers_some d is h = subst (λ (zs : List Fact). Answers q (facts_view zs) (Some (decision_view d))) same (subst (λ (p : Option Decision). Answers q (facts_view xs) (option_map decision_view p)) is h)

  pub answers_none : o ≡ None → Answers q (facts_view xs) (option_map decision_view o) → Answers q (facts_view ys) None
  answers_none is h = subst (λ (zs : List Fact). Answers q (facts_view zs) None) same (subst (λ (p : Option Decision). Answers q (facts_view xs) (option_map decision_view p)) is h)

-- decisions that are told to be one are one
pub same_is_one : (d e : model.Decision) → same_decision d e ≡ true → d ≡ e
same_is_one model.allow model.allow h = refl
same_is_one model.allow model.deny h = absurd (let z = h in cc)
same_is_one model.deny model.allow h = absurd (let z = h in cc)
same_is_one model.deny model.deny h = refl

-- what is answered by these facts, where the decision is the same
pub answers_same : (q : Question) (fs : List KnownFact) (b : Bool) (d e : Decision) → b ≡ same_decision (decision_view d) (decision_view e)
    → Answers q fs (Some (decision_view d)) → b ≡ true → Answers q fs (Some (decision_view e))
answers_same q fs b d e is h told =
    subst (λ (c : model.Decision). Answers q fs (Some c)) (same_is_one (decision_view d) (decision_view e) (sym is ∙ told)) h

-- fewer facts are told where they give the decision
pub thinned_if : (q : Question) (fs : List KnownFact) (d : model.Decision) (b : Bool) (v : Vec Fact Global) (t : Trial) → t ≡ fewer_if b v
    → (b ≡ true → Answers q (facts_view v.items) (Some d)) → IsThinned q fs d t
thinned_if q fs d true v t is h = subst (IsThinned q fs d) (sym is) (h refl)
thinned_if q fs d false v t is h = subst (IsThinned q fs d) (sym is) tt

-- one place more that can't be left out
pub one_more : (q : Question) (fs : List KnownFact) (i : ℕ) → ((j : ℕ) → j < i → Answers q (without j fs) None) → Answers q (without i fs) None
    → (j : ℕ) → j < i + 1 → Answers q (without j fs) None
one_more q fs i before here j h = by (eq-or-lt_of_le {n = j} {m = i} (omega arith))
  where
    by : (j ≡ i) ⊎ (j < i) → Answers q (without j fs) None
    by (inl e) = subst (λ (k : ℕ). Answers q (without k fs) None) (sym e) here
    by (inr l) = before j l

-- ---- reasons

-- a reason of this decision by these facts, which give it
pub reason_given : (q : Question) (r : Reason) (d : Decision) (v : Vec Fact Global) → r.decision ≡ d → r.facts ≡ v
    → Answers q (facts_view v.items) (Some (decision_view d)) → IsGiven q r
reason_given q r d v same_d same_v h =
    subst (λ (e : Decision). Answers q (facts_of r) (Some (decision_view e))) (sym same_d)
    (subst (λ (w : Vec Fact Global). Answers q (facts_view w.items) (Some (decision_view d))) (sym same_v) h)

-- the same of facts of which none can be left out
pub reason_minimal : (q : Question) (r : Reason) (d : model.Decision) (xs : List Fact) (v : Vec Fact Global) (t : Trial) → r.facts ≡ v → xs ≡ v.items
    → t ≡ trials.Minimal → IsThinned q (facts_view xs) d t → IsMinimal q (facts_of r)
reason_minimal q r d xs v t same_v same_x is h =
    subst (λ (w : Vec Fact Global). IsMinimal q (facts_view w.items)) (sym same_v)
    (subst (λ (zs : List Fact). IsMinimal q (facts_view zs)) same_x (subst (λ (u : Trial). IsThinned q (facts_view xs) d u) is h))

-- none is answered where all facts together give none
pub none_by_all : {A : Type 0} (q : Question) (fs gs : List KnownFact) → fs ≡ gs → (o : Result (Option A) AllocError)
    → IfOk o (λ p. IfNone p (Answers q fs None)) → IfOk o (λ p. IfNone p (Answers q gs None))
none_by_all {A} q fs gs same o h = subst (λ (hs : List KnownFact). IfOk o (λ p. IfNone p (Answers q hs None))) same h
