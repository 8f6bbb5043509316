-- Steps that are taken one by one make a chain.
use Rattle.std.specs.Prelude.{◌≡◌, ℕ, List, [], ◌∷◌, ◌++◌, map, Result, Ok, Err}
use Rattle.std.proofs.Common.{refl, sym, subst}
use Rattle.cedar_model.specs.Settings.{RequestPart, Store}
use Rattle.cedar_model.specs.Policies.{Policy, ErrorHandling}
use Rattle.cedar_model.specs.Configurations.{Configuration, resolving}
use Rattle.cedar_model.specs.Refusals.{Refusal}
use Rattle.cedar_model.specs.Chains.{Mapping, ChainStep, Response, Steps}
use Rattle.cedar_model.specs.Authorizations.{HaveNoLimit}
use Rattle.cedar_laws.proofs.GoingOn.{one_step_more}
use Rattle.cedar_layers.specs.Policies.{PolicyView, decides_as}
use Rattle.cedar_requests.specs.Requests.{request_view}
use Rattle.cedar_extensions.specs.declared.extensions.Extensions.{Extensions}
use Rattle.cedar_extensions.specs.Extensions.{extensions_view, calls_of}
use Rattle.cedar_authorizer.specs.declared.authorizer.Authorizer.{Authorizer}
use Rattle.cedar_authorizer.specs.declared.responses.partial_response.PartialResponse.{PartialResponse}
use Rattle.cedar_authorizer.specs.responses.Rows.{rows_view}
use Rattle.cedar_authorizer.specs.Configured.{configuration, asked_of, extensions_of, mode_of, limit_of, resolution_of, DifferInResolution}
use Rattle.cedar_authorizer.specs.ByHand.{ChainGives, taken_with, BeginsChains, TakesChainsFurther, EndsWithHeadline}
use Rattle.cedar_authorizer.specs.Running.{errors_of}
use Rattle.cedar_authorizer.specs.Steps.{response_said, Says, IsStep}
use Rattle.cedar_authorizer.proofs.Chaining.{chain_headline}
use Rattle.cedar_authorizer.proofs.Same.{same_carried, same_step}
use Rattle.cedar_authorizer.proofs.Stepped.{conditions_of, same_rows}

-- a step from what a response says is one from each of the model's that it says
from_said : (c : Configuration) (m : Mapping) (store : Store) (r : PartialResponse) (last : Response) (x : Result Response Refusal) → Says r last → Steps c m store (response_said r) x → Steps c m store last x
from_said c m store r last x says h =
    same_step c m store (response_said r) last (sym says.mode_is) (sym says.request_is) (same_carried last.rows (rows_view r) (same_rows last.rows r says.held)) x h

module _ {X : Type 0} {F : X → Type 0} {g : _} (a : Authorizer X F g) where
  pub begins : (r : PartialResponse) → BeginsChains (configuration a) r
  begins r request store ps asked run =
      let first : Response = record { mode = mode_of a; request = request; rows = run.rows; errors = errors_of r } in (
        first,
        record { mode_is = refl; request_is = refl; runs = run.run },
        (first, refl, record { mode_is = sym run.mode_is; request_is = sym asked; errors_are = refl; held = run.held }),
      )

  further : (next : ChainStep) (r : PartialResponse) (request : RequestPart) (store : Store) (ps : List Policy) (steps : List ChainStep) (x : Result PartialResponse Refusal)
      → ChainGives (configuration a) request store ps steps (Ok r) → HaveNoLimit (errors_of r)
      → IsStep (resolving next.resolution (configuration a)) (next.mapping, next.store) (response_said r) x → ChainGives (configuration a) request store ps (steps ++ next ∷ []) x
  further next r request store ps steps (Ok n) (first, begun, (last, chain, says)) none (new, step, said) =
      let quiet : HaveNoLimit last.errors = subst HaveNoLimit (sym says.errors_are) none in (
        first,
        begun,
        (
          new,
          one_step_more (mode_of a) (asked_of (configuration a) request store) (calls_of (extensions_of a)) (limit_of a) first last steps next (Ok new) chain quiet
              (from_said (resolving next.resolution (configuration a)) next.mapping next.store r last (Ok new) says step),
          said,
        ),
      )
  further next r request store ps steps (Err e) (first, begun, (last, chain, says)) none step =
      let quiet : HaveNoLimit last.errors = subst HaveNoLimit (sym says.errors_are) none in (
        first,
        begun,
        one_step_more (mode_of a) (asked_of (configuration a) request store) (calls_of (extensions_of a)) (limit_of a) first last steps next (Err e) chain quiet
            (from_said (resolving next.resolution (configuration a)) next.mapping next.store r last (Err e) says step),
      )

  pub goes_on : (b : Authorizer X F g) (r : PartialResponse) → DifferInResolution a b → TakesChainsFurther (configuration a) (configuration b) r
  goes_on b r (x_same, mode_same, limit_same) request store ps steps step x gives none h =
      further (taken_with (configuration b) step) r request store ps steps x gives none
      (subst (λ (e : Extensions X F g). IsStep (record { mode = mode_of a; resolution = resolution_of b; extensions = extensions_view e; calls = calls_of e; levels = limit_of a }) step (response_said r) x) x_same
      (subst (λ (mode : ErrorHandling). IsStep (record { mode = mode; resolution = resolution_of b; extensions = extensions_view (extensions_of b); calls = calls_of (extensions_of b); levels = limit_of a }) step (response_said r) x) mode_same
      (subst (λ (levels : ℕ). IsStep (record { mode = mode_of b; resolution = resolution_of b; extensions = extensions_view (extensions_of b); calls = calls_of (extensions_of b); levels = levels }) step (response_said r) x) limit_same h)))

  pub ends : (r : PartialResponse) → EndsWithHeadline (configuration a) r
  ends r request store ps steps gives =
      chain_headline (mode_of a) (asked_of (configuration a) request store) (calls_of (extensions_of a)) (limit_of a) (map decides_as ps) steps r (conditions_of ps) gives
