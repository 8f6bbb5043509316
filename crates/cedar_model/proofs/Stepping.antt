-- A step that succeeds, in its parts.
use Rattle.std.specs.Prelude.{◌≡◌, ℕ, Bool, true, false, map, Option, Some, None, Result, Ok, Err}
use Rattle.std.proofs.Common.{refl, ap}
use Rattle.cedar_model.specs.Settings.{ContextPart, RequestPart, Store, Setting}
use Rattle.cedar_model.specs.Rules
use Rattle.cedar_model.specs.Policies.{ErrorHandling}
use Rattle.cedar_model.specs.Responses
use Rattle.cedar_model.specs.Refusals
use Rattle.cedar_model.specs.Chains
use Rattle.cedar_model.proofs.Configured.{configured_by}
use Rattle.cedar_model.proofs.Injections.{ok_inj}

module _ (mode : ErrorHandling) (s : Setting) (calls : Rules.StoredCalls) (levels : ℕ) (m : Chains.Mapping)
    (store : Store)
    (old new : Chains.Response) where
  -- no id is a duplicate, the request is made concrete and its context substituted, and the policies run
  pub record Taken : Type 0 where
    pub mode_is : new.mode ≡ mode
    pub request : RequestPart
    pub context : ContextPart
    pub each_once : Refusals.first_repeated (map (λ p. p.id) (Chains.all_residuals old.rows)) ≡ None
    pub concrete : Refusals.concrete_request m old.request ≡ Ok request
    pub substitutes : Chains.SubstitutesTo (Chains.at_step s.extensions s.resolution old.request store m) calls levels
        m request.context_part
        (Ok context)
    pub request_is : new.request ≡ Chains.with_context request context
    pub runs : Responses.RunOf mode (Chains.at_step s.extensions s.resolution new.request store m) calls levels
        (Chains.all_residuals old.rows) new.rows new.errors

  pub taken : Chains.StepsTo (configured_by calls mode s levels) m store old new → Taken
  taken h = by_mode (Chains.is_same_mode mode old.mode) h
    where
      by_context : (r : RequestPart) → Refusals.first_repeated (map (λ p. p.id) (Chains.all_residuals old.rows))
          ≡ None → Refusals.concrete_request m old.request ≡ Ok r → (c : Result ContextPart Refusals.Refusal)
          → Chains.SubstitutesTo (Chains.at_step s.extensions s.resolution old.request store m) calls levels m
          r.context_part c
          → Chains.AfterContext (configured_by calls mode s levels) m store old r c (Ok new) → Taken
      by_context r i e (Ok c) g (rows, errors, j, k) =
          let n : new ≡ record {
            mode = mode;
            request = Chains.with_context r c;
            rows = rows;
            errors = errors;
          } = ok_inj k in
          record {
            mode_is = ap (λ x. x.mode) n;
            request = r;
            context = c;
            each_once = i;
            concrete = e;
            substitutes = g;
            request_is = ap (λ x. x.request) n;
            runs = rw n j;
          }
      by_context r i e (Err f) g k = absurd (cc)

      by_request : (x : Result RequestPart Refusals.Refusal)
          → Refusals.first_repeated (map (λ p. p.id) (Chains.all_residuals old.rows)) ≡ None
          → Refusals.concrete_request m old.request ≡ x → Chains.AfterRequest
          (configured_by calls mode s levels) m store old x (Ok new)
          → Taken
      by_request (Ok r) i e (c, g, k) = by_context r i e c g k
      by_request (Err f) i e k = absurd (cc)

      by_ids : (x : Option _) → Refusals.first_repeated (map (λ p. p.id) (Chains.all_residuals old.rows)) ≡ x
          → Chains.AfterIds (configured_by calls mode s levels) m store old x (Ok new) → Taken
      by_ids None i k = by_request (Refusals.concrete_request m old.request) i refl k
      by_ids (Some t) i k = absurd (cc)

      by_mode : (b : Bool) → Chains.AfterMode (configured_by calls mode s levels) m store old b (Ok new) → Taken
      by_mode true k = by_ids (Refusals.first_repeated (map (λ p. p.id) (Chains.all_residuals old.rows))) refl k
      by_mode false k = absurd (cc)
