-- What is left of policies, and what is refused, as what is told.
use Rattle.std.proofs.Common.{◌≡◌, sym, subst, Result, Ok, Err, IfOk, string_bytes}
use Rattle.std.specs.declared.alloc.AllocError.{AllocError}
use Rattle.cedar_model.specs.Terms.{Text}
use Rattle.cedar_model.specs.Rules.{StoredCalls}
use Rattle.cedar_model.specs.World as world
use Rattle.cedar_model.specs.Settings.{Setting}
use Rattle.cedar_model.specs.Configurations.{Configuration}
use Rattle.cedar_layers.specs.declared.policies.entities.Entities.{Entities}
use Rattle.cedar_layers.specs.declared.policies.policy_set.PolicySet.{PolicySet}
use Rattle.cedar_requests.specs.declared.request.Request.{Request}
use Rattle.cedar_authorizer.specs.declared.responses.partial_response.PartialResponse.{PartialResponse}
use Rattle.cedar_authorizer.specs.responses.Rows.{rows_view}
use Rattle.cedar_authorizer.specs.Responding.{considered, IsKnownRun}
use Rattle.cedar_authorizer.specs.Running.{IsRun, ResponseStands, IsDeepEnough, errors_of, request_of}
use Rattle.cedar_endpoints.specs.declared.replies.NotRemade.{NotRemade}
use Rattle.cedar_endpoints.specs.declared.replies.Remainder.{Remainder}
use Rattle.cedar_endpoints.specs.declared.replies.Remainder.TheVariants as remainders
use Rattle.cedar_endpoints.specs.Reloads.{IsNotRemade}
use Rattle.cedar_service.specs.declared.engine.NotStarted.{NotStarted}
use Rattle.cedar_service.specs.declared.faults.Refusal.{Refusal}
use Rattle.cedar_service.specs.declared.faults.Refusal.TheVariants as refusals
use Rattle.cedar_service.specs.Decided.{setting_of}
use Rattle.cedar_service.specs.Faults.{IsToldAs, IsFaultBelow}
use Rattle.cedar_service.specs.Left.{unlimited, IsPartialTo, IsUntoldAs, IsUntoldFor}
use Rattle.cedar_service.specs.Loaded.{Texts, IsOfTexts, IsRefusedFor, IsSameRefusal}
use Rattle.cedar_service.specs.Started.{IsNotStarted}
use Rattle.std.specs.Prelude.{codes}

-- a refusal that is handed on tells what it tells
pub untold_as : (P : Text → Type 0) → (r : Refusal) → (o : Remainder) → IsToldAs P r → IsUntoldFor r o → IsUntoldAs P o
untold_as P refusals.Memory o h is = absurd is
untold_as P (refusals.Told t) (remainders.Told response) h is = absurd is
untold_as P (refusals.Told t) (remainders.Refused error) h is = subst (λ s. P (string_bytes s)) (sym is) h
untold_as P (refusals.Told t) (remainders.TooLarge error) h is = absurd is

-- the same where a text is not taken
pub unmade_as : (P : Text → Type 0) → (r : Refusal) → (n : NotRemade) → IsToldAs P r → IsSameRefusal r n → IsNotRemade P n
unmade_as P refusals.Memory n h is = subst (λ (x : NotRemade). IsNotRemade P x) (sym is) tt
unmade_as P (refusals.Told t) n h is = subst (λ (x : NotRemade). IsNotRemade P x) (sym is) h

-- why a text is not taken
pub refused_for : (ts : Texts) (f : NotStarted) → IsNotStarted ts.policies ts.entities f → (r : Refusal)
    → IsToldAs (λ _. IsOfTexts f) r → IsToldAs (IsFaultBelow (codes "$")) r → IsToldAs (IsRefusedFor ts) r
refused_for ts f not refusals.Memory of told = tt
refused_for ts f not (refusals.Told t) of told =
    record { reason = f; not_started = not; of_texts = of; told = told }

-- the response of an authorizer that is configured so, and asked so
module _ (X : world.Extensions) (calls : StoredCalls) (ps : PolicySet) (s : Entities) (r : Request) where
  pub partial_to : (c : Configuration) (t : Setting) → c ≡ unlimited X calls → t ≡ setting_of X r s
      → (o : Result PartialResponse AllocError)
      → IfOk o (IsRun c t (considered ps))
      → IfOk o (ResponseStands c t (considered ps))
      → IfOk o (λ a. IsKnownRun c t (considered ps) (rows_view a) (errors_of a))
      → IfOk o (IsDeepEnough c t (considered ps))
      → IfOk o (λ a. request_of a ≡ r)
      → IfOk o (IsPartialTo X calls ps s r)
  partial_to c t same asked (Ok a) run stands known deep is = record {
    by_rules = subst (λ d. IsRun d (setting_of X r s) (considered ps) a) same
        (subst (λ u. IsRun c u (considered ps) a) asked run);
    stands = subst (λ d. ResponseStands d (setting_of X r s) (considered ps) a) same
        (subst (λ u. ResponseStands c u (considered ps) a) asked stands);
    by_meaning = subst (λ d. IsKnownRun d (setting_of X r s) (considered ps) (rows_view a) (errors_of a)) same
        (subst (λ u. IsKnownRun c u (considered ps) (rows_view a) (errors_of a)) asked known);
    deep = subst (λ d. IsDeepEnough d (setting_of X r s) (considered ps) a) same
        (subst (λ u. IsDeepEnough c u (considered ps) a) asked deep);
    request_is = is;
  }
  partial_to c t same asked (Err e) run stands known deep is = tt
