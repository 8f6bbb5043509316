-- Steps and chains with equal arguments.
use Rattle.std.specs.Prelude.{◌≡◌, ℕ, Bool, true, false, List, [], ◌∷◌, map, Option, Some, None, Result, Ok, Err, MatchBool, MatchResult}
use Rattle.std.proofs.Common.{refl, sym, ◌∙◌, subst}
use Rattle.cedar_model.specs.Terms.{Text, literal, variable, slot, unknown, if_then_else, both, either, unary}
use Rattle.cedar_model.specs.Terms.{binary, call, get_attribute, has_attribute, extended_has, like, is_of_type}
use Rattle.cedar_model.specs.Terms.{set_of, record_of}
use Rattle.cedar_model.specs.Values.{Represented, plain_represented, set_represented, record_represented, extension_represented}
use Rattle.cedar_model.specs.Failures.{value, residual, Answer, answers, fails}
use Rattle.cedar_model.specs.Settings.{ContextPart, absent_context, known_context, residual_context, RequestPart, Store, Setting}
use Rattle.cedar_model.specs.Rules.{StoredCalls}
use Rattle.cedar_model.specs.Alike.{AreFunctional}
use Rattle.cedar_model.specs.Policies.{ErrorHandling}
use Rattle.cedar_model.specs.Configurations.{resolving}
use Rattle.cedar_model.specs.Refusals
use Rattle.cedar_model.specs.Refusals.{Refusal}
use Rattle.cedar_model.specs.Chains
use Rattle.cedar_model.specs.Chains.{Mapping, Response, ChainStep}
use Rattle.cedar_model.proofs.Completions.{concrete_parts}
use Rattle.cedar_model.proofs.Configured.{configured_by, in_step}
use Rattle.cedar_model.proofs.Injections.{ok_inj, ok_is_not_err}
use Rattle.cedar_laws.specs.EqualRuns.{HaveOneAnswer}
use Rattle.cedar_laws.specs.EqualSteps.{IsSettled, AnswerAlike}
use Rattle.cedar_laws.proofs.AlikeAnswers.{runs_alike}
use Rattle.cedar_laws.proofs.OneAnswer.{both_are, one_answer, runs_equal}

-- ---- the context that an answer is, is one

one_context : (a : Answer) (c d : Result ContextPart Refusal) → Refusals.IsContext a c → Refusals.IsContext a d → c ≡ d
one_context (answers (value (plain_represented l))) c d h k = absurd h
one_context (answers (value (set_represented vs))) c d h k = absurd h
one_context (answers (value (record_represented fs))) c d h k = both_are c d _ h k
one_context (answers (value (extension_represented t n f ts))) c d h k = absurd h
one_context (answers (residual (literal l))) c d h k = absurd h
one_context (answers (residual (variable v))) c d h k = absurd h
one_context (answers (residual (slot i))) c d h k = absurd h
one_context (answers (residual (unknown n t))) c d h k = absurd h
one_context (answers (residual (if_then_else x y z))) c d h k = absurd h
one_context (answers (residual (both x y))) c d h k = absurd h
one_context (answers (residual (either x y))) c d h k = absurd h
one_context (answers (residual (unary op x))) c d h k = absurd h
one_context (answers (residual (binary op x y))) c d h k = absurd h
one_context (answers (residual (call f ts))) c d h k = absurd h
one_context (answers (residual (get_attribute x n))) c d h k = absurd h
one_context (answers (residual (has_attribute x n))) c d h k = absurd h
one_context (answers (residual (extended_has x n ns))) c d h k = absurd h
one_context (answers (residual (like x p))) c d h k = absurd h
one_context (answers (residual (is_of_type x t))) c d h k = absurd h
one_context (answers (residual (set_of ts))) c d h k = absurd h
one_context (answers (residual (record_of fs))) c d h k = both_are c d _ h k
one_context (fails e) c d h k = both_are c d _ h k

module _ (calls : StoredCalls) (mode : ErrorHandling) (levels : ℕ) (m : Mapping) where
  -- ---- where functions have one answer

  module _ (one_call : HaveOneAnswer calls) where
    one_substituted : (z : Setting) (k : ContextPart) (c d : Result ContextPart Refusal)
        → Chains.SubstitutesTo z calls levels m k c → Chains.SubstitutesTo z calls levels m k d → c ≡ d
    one_substituted z absent_context c d h i = both_are c d _ h i
    one_substituted z (known_context fs) c d h i = both_are c d _ h i
    one_substituted z (residual_context fs) c d (a, g, h) (b, j, i) =
        let same : a ≡ b = one_answer calls one_call (Chains.without_map z) levels (record_of (Chains.substituted_at m fs)) a b g j in
        one_context b c d (subst (λ (x : Answer). Refusals.IsContext x c) same h) i

    module _ (s : Setting) (store : Store) (old : Response) (x y : Result Response Refusal) where
      one_after : (r : RequestPart) (c : Result ContextPart Refusal) → Chains.AfterContext (configured_by calls mode s levels) m store old r c x
          → Chains.AfterContext (configured_by calls mode s levels) m store old r c y → x ≡ y
      one_after r (Err e) h i = both_are x y _ h i
      one_after r (Ok d) (rows, errors, g, e) (others, other_errors, j, f) =
          let k = runs_equal calls one_call mode (Chains.at_step s.extensions s.resolution (Chains.with_context r d) store m) levels (Chains.all_residuals old.rows) rows others errors other_errors g j in
          e ∙ (λ i. Ok record { mode = mode; request = Chains.with_context r d; rows = k.0 i; errors = k.1 i }) ∙ sym f

      one_by_request : (r : Result RequestPart Refusal) → Chains.AfterRequest (configured_by calls mode s levels) m store old r x
          → Chains.AfterRequest (configured_by calls mode s levels) m store old r y → x ≡ y
      one_by_request (Err e) h i = both_are x y _ h i
      one_by_request (Ok r) (c, g, h) (d, j, i) =
          let same : c ≡ d = one_substituted (Chains.at_step s.extensions s.resolution old.request store m) r.context_part c d g j in
          one_after r d (subst (λ (z : Result ContextPart Refusal). Chains.AfterContext (configured_by calls mode s levels) m store old r z x) same h) i

      one_by_ids : (o : Option Text) → Chains.AfterIds (configured_by calls mode s levels) m store old o x
          → Chains.AfterIds (configured_by calls mode s levels) m store old o y → x ≡ y
      one_by_ids (Some id) h i = both_are x y _ h i
      one_by_ids None h i = one_by_request (Refusals.concrete_request m old.request) h i

      one_by_mode : (b : Bool) → Chains.AfterMode (configured_by calls mode s levels) m store old b x
          → Chains.AfterMode (configured_by calls mode s levels) m store old b y → x ≡ y
      one_by_mode true h i = one_by_ids (Refusals.first_repeated (map (λ p. p.id) (Chains.all_residuals old.rows))) h i
      one_by_mode false h i = both_are x y _ h i

      pub one_step : Chains.Steps (configured_by calls mode s levels) m store old x
          → Chains.Steps (configured_by calls mode s levels) m store old y → x ≡ y
      one_step h i = one_by_mode (Chains.is_same_mode mode old.mode) h i

  -- ---- where functions answer alike, and no context is evaluated again

  module _ (functional : AreFunctional calls) (s : Setting) (store : Store) (old : Response) (x y : Result Response Refusal) where
    same_answers : (z : Result Response Refusal) → x ≡ z → y ≡ z → AnswerAlike x y
    same_answers z e f = subst (λ u. AnswerAlike u y) (sym e) (subst (AnswerAlike z) (sym f) (by z))
      where
        by : (u : Result Response Refusal) → AnswerAlike u u
        by (Ok a) = record { mode_same = refl; request_same = refl; runs_alike = record { rows_alike = refl; kinds_same = refl } }
        by (Err g) = refl

    alike_after : (r : RequestPart) (c : Result ContextPart Refusal) → Chains.AfterContext (configured_by calls mode s levels) m store old r c x
        → Chains.AfterContext (configured_by calls mode s levels) m store old r c y → AnswerAlike x y
    alike_after r (Err e) h i = same_answers (Err e) h i
    alike_after r (Ok d) (rows, errors, g, e) (others, other_errors, j, f) =
        let k = runs_alike calls functional mode (Chains.at_step s.extensions s.resolution (Chains.with_context r d) store m) levels (Chains.all_residuals old.rows) rows others errors other_errors g j in
        subst (λ u. AnswerAlike u y) (sym e)
        (subst (AnswerAlike (Ok record { mode = mode; request = Chains.with_context r d; rows = rows; errors = errors })) (sym f)
        record { mode_same = refl; request_same = refl; runs_alike = k })

    settled_one : (z : Setting) (k : ContextPart) (c d : Result ContextPart Refusal) → IsSettled k
        → Chains.SubstitutesTo z calls levels m k c → Chains.SubstitutesTo z calls levels m k d → c ≡ d
    settled_one z absent_context c d settled h i = both_are c d _ h i
    settled_one z (known_context fs) c d settled h i = both_are c d _ h i
    settled_one z (residual_context fs) c d settled h i = absurd settled

    record_settled : (v : Represented) (d : ContextPart) → Refusals.context_by v absent_context ≡ Ok d → IsSettled d
    unfolding Refusals.context_by Refusals.context_beside
    record_settled (plain_represented l) d e = absurd (ok_is_not_err (sym e))
    record_settled (set_represented vs) d e = absurd (ok_is_not_err (sym e))
    record_settled (record_represented fs) d e = subst IsSettled (ok_inj e) tt
    record_settled (extension_represented t n f ts) d e = absurd (ok_is_not_err (sym e))

    not_over_known : (v : Represented) (fs : _) (d : ContextPart) → Refusals.context_by v (known_context fs) ≡ Ok d → ⊥
    unfolding Refusals.context_by Refusals.context_beside
    not_over_known (plain_represented l) fs d e = ok_is_not_err (sym e)
    not_over_known (set_represented vs) fs d e = ok_is_not_err (sym e)
    not_over_known (record_represented gs) fs d e = ok_is_not_err (sym e)
    not_over_known (extension_represented t n f ts) fs d e = ok_is_not_err (sym e)

    stays_settled : (o : Option Represented) (c d : ContextPart) → IsSettled c → Refusals.concrete_context o c ≡ Ok d → IsSettled d
    unfolding Refusals.concrete_context
    stays_settled None c d settled e = subst IsSettled (ok_inj e) settled
    stays_settled (Some v) absent_context d settled e = record_settled v d e
    stays_settled (Some v) (known_context fs) d settled e = absurd (not_over_known v fs d e)
    stays_settled (Some v) (residual_context fs) d settled e = absurd settled

    alike_by_request : (q : Result RequestPart Refusal) → Refusals.concrete_request m old.request ≡ q → IsSettled old.request.context_part
        → Chains.AfterRequest (configured_by calls mode s levels) m store old q x
        → Chains.AfterRequest (configured_by calls mode s levels) m store old q y → AnswerAlike x y
    alike_by_request (Err e) is settled h i = same_answers (Err e) h i
    alike_by_request (Ok r) is settled (c, g, h) (d, j, i) =
        let parts = concrete_parts m old.request r is in
        let quiet : IsSettled r.context_part = stays_settled (m _) old.request.context_part r.context_part settled parts.context_is in
        let same : c ≡ d = settled_one (Chains.at_step s.extensions s.resolution old.request store m) r.context_part c d quiet g j in
        alike_after r d (subst (λ (z : Result ContextPart Refusal). Chains.AfterContext (configured_by calls mode s levels) m store old r z x) same h) i

    alike_by_ids : (o : Option Text) → IsSettled old.request.context_part → Chains.AfterIds (configured_by calls mode s levels) m store old o x
        → Chains.AfterIds (configured_by calls mode s levels) m store old o y → AnswerAlike x y
    alike_by_ids (Some id) settled h i = same_answers (Err (Refusals.id_comes_again id)) h i
    alike_by_ids None settled h i = alike_by_request (Refusals.concrete_request m old.request) refl settled h i

    alike_by_mode : (b : Bool) → IsSettled old.request.context_part → Chains.AfterMode (configured_by calls mode s levels) m store old b x
        → Chains.AfterMode (configured_by calls mode s levels) m store old b y → AnswerAlike x y
    alike_by_mode true settled h i = alike_by_ids (Refusals.first_repeated (map (λ p. p.id) (Chains.all_residuals old.rows))) settled h i
    alike_by_mode false settled h i = same_answers (Err (Refusals.mode_is_other old.mode mode)) h i

    pub alike_steps : IsSettled old.request.context_part → Chains.Steps (configured_by calls mode s levels) m store old x
        → Chains.Steps (configured_by calls mode s levels) m store old y → AnswerAlike x y
    alike_steps settled h i = alike_by_mode (Chains.is_same_mode mode old.mode) settled h i

-- ---- chains

module _ (calls : StoredCalls) (one_call : HaveOneAnswer calls) (mode : ErrorHandling) (s : Setting) (levels : ℕ) where
  abbrev Rest : List ChainStep → Response → Result Response Refusal → Type 0
  Rest steps n z = Chains.ChainAnswers (configured_by calls mode s levels) n steps z

  abbrev Next : List ChainStep → Result Response Refusal → Result Response Refusal → Type 0
  Next steps a z = MatchResult a (λ n. Rest steps n z) (λ e. z ≡ Err e)

  pub one_chain : (steps : List ChainStep) (r : Response) (x y : Result Response Refusal)
      → Chains.ChainAnswers (configured_by calls mode s levels) r steps x
      → Chains.ChainAnswers (configured_by calls mode s levels) r steps y → x ≡ y
  one_chain [] r x y h i = both_are x y _ h i
  one_chain (step ∷ steps) r x y h i = by (λ n. one_chain steps n x y) (Chains.has_limit r.errors) h i
    where
      next : ((n : Response) → Rest steps n x → Rest steps n y → x ≡ y) → (a b : Result Response Refusal) → a ≡ b → Next steps a x → Next steps b y → x ≡ y
      next one a (Ok n) same f k = one n (subst (λ (z : Result Response Refusal). Next steps z x) same f) k
      next one a (Err e) same f k = both_are x y (Err e) (subst (λ (z : Result Response Refusal). Next steps z x) same f) k

      by : ((n : Response) → Rest steps n x → Rest steps n y → x ≡ y) → (b : Bool)
          → MatchBool b (x ≡ Ok r) ((a : Result Response Refusal) × Chains.Steps (resolving step.resolution (configured_by calls mode s levels)) step.mapping step.store r a × Next steps a x)
          → MatchBool b (y ≡ Ok r) ((a : Result Response Refusal) × Chains.Steps (resolving step.resolution (configured_by calls mode s levels)) step.mapping step.store r a × Next steps a y) → x ≡ y
      by one true f k = both_are x y _ f k
      by one false (a, g, f) (b, j, k) =
          next one a b (one_step calls mode levels step.mapping one_call (in_step s step) step.store r a b g j) f k
