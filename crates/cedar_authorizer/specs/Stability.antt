-- Four facts of what an authorizer answers where nothing is unknown, in each way to handle errors. `IsExactResponse` is what
-- it ensures of its answers there.
use Rattle.std.specs.Prelude.{◌≡◌, ◌≢◌, true, false, List, ◌∷◌, ◌++◌}
use Rattle.cedar_model.specs.Terms.{Text}
use Rattle.cedar_model.specs.World.{World, Extensions, Functions}
use Rattle.cedar_model.specs.Meaning.{meaning}
use Rattle.cedar_model.specs.Policies.{Policy, permit, forbid, erring, verdict, some_satisfied, counted_each}
use Rattle.cedar_model.specs.Policies.{ErrorHandling, skip, forbid_on_error}
use Rattle.cedar_model.specs.Reordering.{IsReordering}
use Rattle.cedar_model.specs.Authorizations.{IsExactResponse}
use Rattle.cedar_decisions.specs.declared.decision.Decision.TheVariants.{Allow, Deny}
use Rattle.cedar_authorizer.specs.declared.responses.response.Response.{Response}
use Rattle.cedar_authorizer.specs.responses.Responses.{has_id, response_view}

-- the same decision for the same reasons
abbrev pub AnswersAlike : Response → Response → Type 0
AnswersAlike q r =
    (q.decision ≡ r.decision) × ((t : Text) → has_id q.diagnostics.reason t ≡ has_id r.diagnostics.reason t)

-- a response to these policies in a mode, exact in a world
abbrev pub RespondsIn : ErrorHandling → Extensions → Functions → World → List Policy → Response → Type 0
RespondsIn mode X ans w ps r = IsExactResponse mode X ans w ps (response_view r)

-- the policy errs in a world
abbrev pub ErrsIn : Extensions → Functions → World → Policy → Type 0
ErrsIn X ans w p = verdict (meaning X ans w p.slots p.condition) ≡ erring

-- the order of policies changes nothing
abbrev pub OrderChangesNothing : Response → Response → Type 0
OrderChangesNothing r q =
    (mode : ErrorHandling) (X : Extensions) (ans : Functions) (w : World) (ps qs : List Policy)
    → IsReordering Policy ps qs → RespondsIn mode X ans w ps r → RespondsIn mode X ans w qs q → AnswersAlike q r

-- an added forbid never turns Deny into Allow
abbrev pub ForbidsKeepDeny : Response → Response → Type 0
ForbidsKeepDeny r q =
    (mode : ErrorHandling) (X : Extensions) (ans : Functions) (w : World) (before after : List Policy) (p : Policy)
    → p.effect ≡ forbid → RespondsIn mode X ans w (before ++ after) r
    → RespondsIn mode X ans w (before ++ (p ∷ after)) q → r.decision ≡ Deny → q.decision ≡ Deny

-- an added permit never turns Allow into Deny
abbrev pub PermitsKeepAllow : Response → Response → Type 0
PermitsKeepAllow r q =
    (mode : ErrorHandling) (X : Extensions) (ans : Functions) (w : World) (before after : List Policy) (p : Policy)
    → p.effect ≡ permit → RespondsIn mode X ans w (before ++ after) r
    → RespondsIn mode X ans w (before ++ (p ∷ after)) q → r.decision ≡ Allow → q.decision ≡ Allow

-- where errors are skipped, taking out an erring policy changes neither decision nor reasons
abbrev pub ErringChangesNothing : Response → Response → Type 0
ErringChangesNothing r q =
    (X : Extensions) (ans : Functions) (w : World) (before after : List Policy) (p : Policy) → ErrsIn X ans w p
    → RespondsIn skip X ans w (before ++ after) r → RespondsIn skip X ans w (before ++ (p ∷ after)) q
    → AnswersAlike q r

-- nor does taking out an erring permit, in each mode
abbrev pub ErringPermitChangesNothing : Response → Response → Type 0
ErringPermitChangesNothing r q =
    (mode : ErrorHandling) (X : Extensions) (ans : Functions) (w : World) (before after : List Policy) (p : Policy)
    → p.effect ≡ permit → ErrsIn X ans w p → RespondsIn mode X ans w (before ++ after) r
    → RespondsIn mode X ans w (before ++ (p ∷ after)) q → AnswersAlike q r

-- where an erring forbid counts, taking it out changes the decision only where no other forbid counts and some permit is
-- satisfied
abbrev pub ErringForbidDecidesAlone : Response → Response → Type 0
ErringForbidDecidesAlone r q =
    (X : Extensions) (ans : Functions) (w : World) (before after : List Policy) (p : Policy) → p.effect ≡ forbid
    → ErrsIn X ans w p → RespondsIn forbid_on_error X ans w (before ++ after) r
    → RespondsIn forbid_on_error X ans w (before ++ (p ∷ after)) q → q.decision ≢ r.decision
    → (some_satisfied forbid (counted_each forbid_on_error X ans w (before ++ after)) ≡ false)
    × (some_satisfied permit (counted_each forbid_on_error X ans w (before ++ after)) ≡ true)
