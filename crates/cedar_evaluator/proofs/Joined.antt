-- What follows of a conjunction whose sides are evaluated one after the other.
use Rattle.std.specs.Prelude.{◌≡◌, ◌≢◌, ℕ, suc, [], Bool, true, false, Option, Some, None}
use Rattle.std.proofs.Common.{refl, sym, ap, ◌∙◌, subst}
use Rattle.cedar_model.specs.Terms.{Term, bool_type, bool_literal, literal, both}
use Rattle.cedar_model.specs.Values.{Represented, abstract_value}
use Rattle.cedar_model.specs.Outcomes.{bool_of}
use Rattle.cedar_model.specs.Failures.{Failure, failure_kind, out_of_memory, PartialValue, Answer, answers, fails, answers_bool, answers_value, answers_residual, wrong_type}
use Rattle.cedar_model.specs.Settings.{Setting}
use Rattle.cedar_model.specs.Rules.{StoredCalls, Runs, Meets, AndLeft, AfterBest, joined, Best, kept, handed_up, best, best_of_kind}
use Rattle.cedar_model.proofs.Injections.{answers_is_not_fails}

module _ (s : Setting) (calls : StoredCalls) (n : ℕ) (t u : Term) where
  -- an error on the left
  pub failed_left : (f : Failure) → Meets (Runs s calls n t) (fails f) → Meets (Runs s calls (suc n) (both t u)) (fails f)
  failed_left f h ok = (fails f, h ok, refl)

  module _ (v : Represented) (h : Runs s calls n t (answers_value v)) where
    beside_value : (b : Option Bool) → bool_of (abstract_value v) ≡ b → (a : Answer) → AndLeft (Runs s calls n) b v u a →
        Runs s calls (suc n) (both t u) a
    beside_value b is a then = (answers_value v, h, subst (λ z. AndLeft (Runs s calls n) z v u a) (sym is) then)

    -- true on the left
    pub true_left : (x a : Answer) → bool_of (abstract_value v) ≡ Some true → Meets (Runs s calls n u) x →
        (a ≢ fails out_of_memory → a ≡ joined (both (literal (bool_literal true))) x) → Meets (Runs s calls (suc n) (both t u)) a
    unfolding joined
    true_left x a is right that ok =
        let same : a ≡ joined (both (literal (bool_literal true))) x = that ok in
        beside_value (Some true) is a (x, right (λ w. ok (same ∙ ap (joined (both (literal (bool_literal true)))) w)), same)

    -- false on the left
    pub false_left : (a : Answer) → bool_of (abstract_value v) ≡ Some false → a ≡ answers_bool false →
        Meets (Runs s calls (suc n) (both t u)) a
    false_left a is that ok = beside_value (Some false) is a that

    -- no boolean on the left
    pub no_bool_left : (f : Failure) → bool_of (abstract_value v) ≡ None →
        (f ≢ out_of_memory → f ≡ wrong_type bool_type [] (abstract_value v)) → Meets (Runs s calls (suc n) (both t u)) (fails f)
    no_bool_left f is that ok = beside_value None is (fails f) (ap fails (that (λ w. ok (ap fails w))))

  module _ (r : Term) (x : Answer) (h : Runs s calls n t (answers_residual r)) (right : Meets (Runs s calls n u) x) where
    best_of_out_of_memory : x ≡ fails out_of_memory → best x u ≡ handed_up out_of_memory
    unfolding best best_of_kind failure_kind
    best_of_out_of_memory w = ap (λ y. best y u) w

    beside_best : (k : Best) (a : Answer) → best x u ≡ k → k ≢ handed_up out_of_memory →
        AfterBest k (λ t' b. b ≡ answers_residual (both r t')) a → Runs s calls (suc n) (both t u) a
    beside_best k a is fine then = (
      answers_residual r,
      h,
      (x, right (λ w. fine (sym is ∙ best_of_out_of_memory w)), subst (λ z. AfterBest z (λ t' b. b ≡ answers_residual (both r t')) a) (sym is) then),
    )

    -- beside a residual what is kept of the right side
    pub kept_right : (e : Term) (a : Answer) → (kept e ≢ handed_up out_of_memory → kept e ≡ best x u) →
        (a ≢ fails out_of_memory → a ≡ answers_residual (both r e)) → Meets (Runs s calls (suc n) (both t u)) a
    kept_right e a is that ok =
        let fine : kept e ≢ handed_up out_of_memory = λ w. cc in
        beside_best (kept e) a (sym (is fine)) fine (that ok)

    -- and the error that is handed up
    pub handed_up_right : (f : Failure) → (handed_up f ≢ handed_up out_of_memory → handed_up f ≡ best x u) →
        Meets (Runs s calls (suc n) (both t u)) (fails f)
    handed_up_right f is ok =
        let fine : handed_up f ≢ handed_up out_of_memory = λ w. ok (ap fails (same_failure w)) in
        beside_best (handed_up f) (fails f) (sym (is fine)) fine refl
      where
        same_failure : handed_up f ≡ handed_up out_of_memory → f ≡ out_of_memory
        same_failure w = cc
