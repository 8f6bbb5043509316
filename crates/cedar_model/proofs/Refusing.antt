-- A step answers responses alone, or one refusal, where stored functions answer alike to equal arguments.
use Rattle.std.specs.Prelude.{Bool, true, false, ◌≡◌, ℕ, map, Option, Some, None, Result, Ok, Err}
use Rattle.std.proofs.Common.{refl, sym, subst, inl, inr}
use Rattle.cedar_model.specs.Terms.{Text, literal, variable, slot, unknown, if_then_else, both, either, unary, binary}
use Rattle.cedar_model.specs.Terms.{call, get_attribute, has_attribute, extended_has, like, is_of_type, set_of}
use Rattle.cedar_model.specs.Terms.{record_of}
use Rattle.cedar_model.specs.Values.{plain_represented, set_represented, record_represented, extension_represented}
use Rattle.cedar_model.specs.Failures.{PartialValue, value, residual, Answer, answers, fails}
use Rattle.cedar_model.specs.Policies.{ErrorHandling}
use Rattle.cedar_model.specs.Settings.{ContextPart, absent_context, known_context, residual_context, RequestPart}
use Rattle.cedar_model.specs.Settings.{Setting, Store}
use Rattle.cedar_model.specs.Rules.{StoredCalls}
use Rattle.cedar_model.specs.Alike.{AreAlike, AreFunctional}
use Rattle.cedar_model.specs.Refusals
use Rattle.cedar_model.specs.Refusals.{Refusal, context_fails}
use Rattle.cedar_model.specs.Chains
use Rattle.cedar_model.specs.Chains.{Mapping, Response}
use Rattle.cedar_model.specs.laws.Chains as ChainLaws
use Rattle.cedar_model.proofs.Determined.{runs_determined}
use Rattle.cedar_model.proofs.Configured.{configured_by}

abbrev AreAlikeContexts : Result ContextPart Refusal → Result ContextPart Refusal → Type 0
AreAlikeContexts (Ok a) (Ok b) = Unit {0}
AreAlikeContexts (Ok a) (Err f) = ⊥
AreAlikeContexts (Err e) (Ok b) = ⊥
AreAlikeContexts (Err e) (Err f) = ChainLaws.AreAlikeRefusals e f

same_contexts : (c d x : Result ContextPart Refusal) → c ≡ x → d ≡ x → AreAlikeContexts c d
same_contexts c d x e f = subst (λ z. AreAlikeContexts z d) (sym e) (subst (AreAlikeContexts x) (sym f) (by x))
  where
    by : (z : Result ContextPart Refusal) → AreAlikeContexts z z
    by (Ok a) = tt
    by (Err g) = inl refl

same_steps : (x y z : Result Response Refusal) → x ≡ z → y ≡ z → ChainLaws.AreAlikeSteps x y
same_steps x y z e f =
    subst (λ u. ChainLaws.AreAlikeSteps u y) (sym e) (subst (ChainLaws.AreAlikeSteps z) (sym f) (by z))
  where
    by : (u : Result Response Refusal) → ChainLaws.AreAlikeSteps u u
    by (Ok a) = tt
    by (Err g) = inl refl

-- a value or a residual that is a context
answered_ok : (p : PartialValue) (c : Result ContextPart Refusal) → Refusals.IsContext (answers p) c
    → (k : ContextPart) × (c ≡ Ok k)
answered_ok (value (plain_represented l)) c h = absurd h
answered_ok (value (set_represented vs)) c h = absurd h
answered_ok (value (record_represented fs)) c h = (known_context fs, h)
answered_ok (value (extension_represented t k f ts)) c h = absurd h
answered_ok (residual (literal l)) c h = absurd h
answered_ok (residual (variable v)) c h = absurd h
answered_ok (residual (slot i)) c h = absurd h
answered_ok (residual (unknown n t)) c h = absurd h
answered_ok (residual (if_then_else x y z)) c h = absurd h
answered_ok (residual (both x y)) c h = absurd h
answered_ok (residual (either x y)) c h = absurd h
answered_ok (residual (unary op x)) c h = absurd h
answered_ok (residual (binary op x y)) c h = absurd h
answered_ok (residual (call f ts)) c h = absurd h
answered_ok (residual (get_attribute x k)) c h = absurd h
answered_ok (residual (has_attribute x k)) c h = absurd h
answered_ok (residual (extended_has x k ks)) c h = absurd h
answered_ok (residual (like x p)) c h = absurd h
answered_ok (residual (is_of_type x t)) c h = absurd h
answered_ok (residual (set_of ts)) c h = absurd h
answered_ok (residual (record_of fs)) c h = (residual_context fs, h)

contexts_alike : (a b : Answer) (c d : Result ContextPart Refusal) → AreAlike a b → Refusals.IsContext a c
    → Refusals.IsContext b d → AreAlikeContexts c d
contexts_alike (answers p) (answers q) c d h i j =
    let k = answered_ok p c i in
    let l = answered_ok q d j in
    subst (λ z. AreAlikeContexts z d) (sym k.1) (subst (AreAlikeContexts (Ok k.0)) (sym l.1) tt)
contexts_alike (answers p) (fails f) c d h i j = absurd h
contexts_alike (fails e) (answers q) c d h i j = absurd h
contexts_alike (fails e) (fails f) c d h i j =
    subst (λ z. AreAlikeContexts z d) (sym i) (subst (AreAlikeContexts (Err (context_fails e))) (sym j)
    (inr (e, f, refl, refl, h)))

module _ (calls : StoredCalls) (functional : AreFunctional calls) (mode : ErrorHandling) (s : Setting) (levels : ℕ)
    (m : Mapping)
    (store : Store) (old : Response) (x y : Result Response Refusal) where
  substituted_alike : (z : Setting) (k : ContextPart) (c d : Result ContextPart Refusal)
      → Chains.SubstitutesTo z calls levels m k c → Chains.SubstitutesTo z calls levels m k d → AreAlikeContexts c d
  substituted_alike z absent_context c d h i = same_contexts c d (Ok absent_context) h i
  substituted_alike z (known_context fs) c d h i = same_contexts c d (Ok (known_context fs)) h i
  substituted_alike z (residual_context fs) c d (a, g, h) (b, j, i) =
      contexts_alike a b c d (runs_determined (Chains.without_map z) calls functional levels
      (record_of (Chains.substituted_at m fs)) a b g j) h i

  both_answer : (u v : Response) → x ≡ Ok u → y ≡ Ok v → ChainLaws.AreAlikeSteps x y
  both_answer u v e f =
      subst (λ z. ChainLaws.AreAlikeSteps z y) (sym e) (subst (ChainLaws.AreAlikeSteps (Ok u)) (sym f) tt)

  abbrev After : RequestPart → Result ContextPart Refusal → Result Response Refusal → Type 0
  After = Chains.AfterContext (configured_by calls mode s levels) m store old

  after_alike : (r : RequestPart) (c d : Result ContextPart Refusal) → AreAlikeContexts c d → After r c x
      → After r d y → ChainLaws.AreAlikeSteps x y
  after_alike r (Ok c) (Ok d) a (rows, errors, g, e) (rows', errors', h, f) =
      both_answer _ _ e f
  after_alike r (Ok c) (Err f) a h i = absurd a
  after_alike r (Err e) (Ok d) a h i = absurd a
  after_alike r (Err e) (Err f) a h i =
      subst (λ z. ChainLaws.AreAlikeSteps z y) (sym h) (subst (ChainLaws.AreAlikeSteps (Err e)) (sym i) a)

  request_alike : (r : Result RequestPart Refusal) → Chains.AfterRequest
      (configured_by calls mode s levels) m store old r x
      → Chains.AfterRequest (configured_by calls mode s levels) m store old r y → ChainLaws.AreAlikeSteps x y
  request_alike (Ok r) (c, g, h) (d, j, i) =
      after_alike r c d (substituted_alike (Chains.at_step s.extensions s.resolution old.request store m)
      r.context_part c d g j) h i
  request_alike (Err e) h i = same_steps x y (Err e) h i

  ids_alike : (o : Option Text) → Chains.AfterIds (configured_by calls mode s levels) m store old o x
      → Chains.AfterIds (configured_by calls mode s levels) m store old o y → ChainLaws.AreAlikeSteps x y
  ids_alike (Some id) h i = same_steps x y (Err (Refusals.id_comes_again id)) h i
  ids_alike None h i = request_alike (Refusals.concrete_request m old.request) h i

  mode_alike : (b : Bool) → Chains.AfterMode (configured_by calls mode s levels) m store old b x
      → Chains.AfterMode (configured_by calls mode s levels) m store old b y → ChainLaws.AreAlikeSteps x y
  mode_alike true h i = ids_alike (Refusals.first_repeated (map (λ p. p.id) (Chains.all_residuals old.rows))) h i
  mode_alike false h i = same_steps x y (Err (Refusals.mode_is_other old.mode mode)) h i

  pub steps_alike : Chains.Steps (configured_by calls mode s levels) m store old x
      → Chains.Steps (configured_by calls mode s levels) m store old y
      → ChainLaws.AreAlikeSteps x y
  steps_alike h i = mode_alike (Chains.is_same_mode mode old.mode) h i
