-- What is decided, and what is refused, as an outcome.
use Rattle.std.proofs.Common.{◌≡◌, sym, subst, Result, Ok, Err, IfOk, string_bytes}
use Rattle.std.specs.declared.alloc.AllocError.{AllocError}
use Rattle.cedar_model.specs.Terms.{Text}
use Rattle.cedar_model.specs.Rules.{StoredCalls}
use Rattle.cedar_model.specs.World as world
use Rattle.cedar_model.specs.Settings.{Setting}
use Rattle.cedar_model.specs.Configurations.{Configuration}
use Rattle.cedar_layers.specs.declared.policies.entities.Entities.{Entities}
use Rattle.cedar_layers.specs.declared.policies.policy_set.PolicySet.{PolicySet}
use Rattle.cedar_requests.specs.declared.request.Request.{Request}
use Rattle.cedar_authorizer.specs.declared.responses.response.Response.{Response}
use Rattle.cedar_authorizer.specs.responses.Responses.{response_view}
use Rattle.cedar_authorizer.specs.Responding.{considered, IsKnownResponse, MeetsNoLimit}
use Rattle.cedar_authorizer.specs.Running.{IsConcreteRun}
use Rattle.cedar_service.specs.declared.faults.Refusal.{Refusal}
use Rattle.cedar_service.specs.declared.faults.Refusal.TheVariants as refusals
use Rattle.cedar_service.specs.Faults.{IsToldAs}
use Rattle.cedar_endpoints.specs.declared.replies.Outcome.{Outcome}
use Rattle.cedar_endpoints.specs.declared.replies.Outcome.TheVariants as outcomes
use Rattle.cedar_service.specs.Decided.{configuration_of, setting_of, IsResponseTo, IsRefusalOf, IsRefusedAs}

-- a refusal that is handed on tells what it tells
pub refused_as : (P : Text → Type 0) → (r : Refusal) → (o : Outcome) → IsToldAs P r → IsRefusalOf r o → IsRefusedAs P o
refused_as P refusals.Memory o h is = absurd is
refused_as P (refusals.Told t) (outcomes.Decided b context) h is = absurd is
refused_as P (refusals.Told t) (outcomes.Refused error) h is = subst (λ s. P (string_bytes s)) (sym is) h
refused_as P (refusals.Told t) (outcomes.TooLarge error) h is = absurd is

-- the response of an authorizer that is configured so, and asked so
module _ (X : world.Extensions) (calls : StoredCalls) (ps : PolicySet) (s : Entities) (r : Request) where
  pub response_to : (c : Configuration) (t : Setting) → c ≡ configuration_of X calls → t ≡ setting_of X r s
      → (o : Result Response AllocError)
      → IfOk o (λ a. IsConcreteRun c t (considered ps) (response_view a))
      → IfOk o (λ a. IsKnownResponse c t (considered ps) (response_view a))
      → IfOk o (λ a. MeetsNoLimit c t (considered ps) (response_view a).errors)
      → IfOk o (λ a. IsResponseTo X calls ps s r (response_view a))
  response_to c t same asked (Ok a) run known limit = record {
    by_rules = subst (λ d. IsConcreteRun d (setting_of X r s) (considered ps) (response_view a)) same
        (subst (λ u. IsConcreteRun c u (considered ps) (response_view a)) asked run);
    by_meaning = subst (λ d. IsKnownResponse d (setting_of X r s) (considered ps) (response_view a)) same
        (subst (λ u. IsKnownResponse c u (considered ps) (response_view a)) asked known);
    within_limit = subst (λ d. MeetsNoLimit d (setting_of X r s) (considered ps) (response_view a).errors) same
        (subst (λ u. MeetsNoLimit c u (considered ps) (response_view a).errors) asked limit);
  }
  response_to c t same asked (Err e) run known limit = tt
