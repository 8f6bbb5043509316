-- How what is answered is composed of what the calls below answer.
use Rattle.std.proofs.Common.{◌≡◌, sym, subst, Result, Ok, Err, IfOk}
use Rattle.std.specs.Result.{IsErrAnd}
use Rattle.std.specs.Prelude.{IfErr}
use Rattle.std.specs.declared.alloc.AllocError.{AllocError}
use Rattle.cedar_model.specs.Rules.{StoredCalls}
use Rattle.cedar_model.specs.World as world
use Rattle.cedar_model.specs.Settings.{Setting}
use Rattle.cedar_model.specs.Configurations.{Configuration}
use Rattle.cedar_layers.specs.declared.policies.entities.Entities.{Entities}
use Rattle.cedar_layers.specs.declared.policies.policy_set.PolicySet.{PolicySet}
use Rattle.cedar_requests.specs.declared.request.Request.{Request}
use Rattle.cedar_authorizer.specs.declared.responses.response.Response.{Response}
use Rattle.cedar_authorizer.specs.responses.Responses.{response_view}
use Rattle.cedar_authorizer.specs.Responding.{considered, IsKnownResponse, MeetsNoLimit}
use Rattle.cedar_authorizer.specs.Running.{IsConcreteRun}
use Rattle.cedar_cli.specs.declared.asked.Way.{Way}
use Rattle.cedar_cli.specs.Authorized.{configuration_of, setting_of, IsResponseTo}

-- what holds of each answer holds of the one that is given
pub of_ok : {A E : Type 0} (P Q : A → Type 0) → ((a : A) → P a → Q a) → (r : Result A E) → IfOk r P → IfOk r Q
of_ok P Q f (Ok a) h = f a h
of_ok P Q f (Err e) h = tt

-- in two ways
pub of_two : {A E : Type 0} (P Q R : A → Type 0) → ((a : A) → P a → Q a → R a) → (r : Result A E) → IfOk r P → IfOk r Q
    → IfOk r R
of_two P Q R f (Ok a) h k = f a h k
of_two P Q R f (Err e) h k = tt

-- and of each refusal
pub of_err : {A E : Type 0} (P Q : E → Type 0) → ((e : E) → P e → Q e) → (r : Result A E) → IfErr r P → IfErr r Q
of_err P Q f (Ok a) h = tt
of_err P Q f (Err e) h = f e h

-- a refusal that is handed up is the one that was met
pub handed_up : {A E : Type 0} (r : Result A E) (e : E) (P : E → Type 0) → IsErrAnd r (λ y. y ≡ e) → P e → IfErr r P
handed_up (Ok a) e P is h = tt
handed_up (Err y) e P is h = subst P (sym is) h

-- the response of an authorizer that is configured so, and asked so
module _ (X : world.Extensions) (calls : StoredCalls) (ps : PolicySet) (s : Entities) (r : Request) (w : Way) where
  pub response_to : (c : Configuration) (t : Setting) → c ≡ configuration_of X calls w → t ≡ setting_of X r s
      → (o : Result Response AllocError)
      → IfOk o (λ a. IsConcreteRun c t (considered ps) (response_view a))
      → IfOk o (λ a. IsKnownResponse c t (considered ps) (response_view a))
      → IfOk o (λ a. MeetsNoLimit c t (considered ps) (response_view a).errors)
      → IfOk o (λ a. IsResponseTo X calls ps s r w (response_view a))
  response_to c t same asked (Ok a) run known limit = record {
    by_rules = subst (λ d. IsConcreteRun d (setting_of X r s) (considered ps) (response_view a)) same
        (subst (λ u. IsConcreteRun c u (considered ps) (response_view a)) asked run);
    by_meaning = subst (λ d. IsKnownResponse d (setting_of X r s) (considered ps) (response_view a)) same
        (subst (λ u. IsKnownResponse c u (considered ps) (response_view a)) asked known);
    within_limit = subst (λ d. MeetsNoLimit d (setting_of X r s) (considered ps) (response_view a).errors) same
        (subst (λ u. MeetsNoLimit c u (considered ps) (response_view a).errors) asked limit);
  }
  response_to c t same asked (Err e) run known limit = tt
