-- The laws of authorization where nothing is unknown, which the functions of `authorizations` have as their contracts.
use Rattle.std.specs.Prelude.{◌≡◌, ◌≢◌, ℕ, true, false, List, ◌∷◌, ◌++◌, None}
use Rattle.cedar_model.specs.Terms.{Text, Term}
use Rattle.cedar_model.specs.Values.{AbstractValue}
use Rattle.cedar_model.specs.World.{World, Extensions, Functions}
use Rattle.cedar_model.specs.Meaning.{meaning}
use Rattle.cedar_model.specs.Failures.{Answer}
use Rattle.cedar_model.specs.Settings.{Setting}
use Rattle.cedar_model.specs.Rules.{StoredCalls, Runs}
use Rattle.cedar_model.specs.Agreement.{IsKnown, HasNothingUnknown, IsAllKnown, own_world}
use Rattle.cedar_model.specs.Policies.{Policy, permit, forbid, erring, verdict, allow, deny, some_satisfied}
use Rattle.cedar_model.specs.Policies.{ErrorHandling, skip, forbid_on_error, counted_each}
use Rattle.cedar_model.specs.Responses.{with_slots}
use Rattle.cedar_model.specs.Reordering.{IsReordering}
use Rattle.cedar_model.specs.Authorizations.{evaluated, Authorized, IsResponse, IsExact, IsExactDecision}
use Rattle.cedar_model.specs.Authorizations.{IsExactResponse, HaveNoLimit, HaveKnownConditions, AreNoHigher, Completes}

-- an answer is exact in the own world
abbrev pub KnownAnswersAreExact : StoredCalls → Type 0
KnownAnswersAreExact calls =
    (ans : Functions) (s : Setting) → IsAllKnown calls ans s
    → (sigma : Text → AbstractValue) (levels : ℕ) (t : Term) (a : Answer) → IsKnown ans t → Runs s calls levels t a
    → IsExact calls ans (own_world s sigma) s levels t a

-- so is what it decides, as a condition's
abbrev pub KnownConditionsAreExact : StoredCalls → Type 0
KnownConditionsAreExact calls =
    (ans : Functions) (s : Setting) → IsAllKnown calls ans s
    → (sigma : Text → AbstractValue) (levels : ℕ) (t : Term) (a : Answer) → IsKnown ans t → Runs s calls levels t a
    → IsExactDecision calls ans (own_world s sigma) s levels t (evaluated a)

-- what policies may answer within so many levels
abbrev pub PolicyRuns : Setting → StoredCalls → ℕ → Policy → Answer → Type 0
PolicyRuns s calls levels p a = Runs (with_slots s p.slots) calls levels p.condition a

-- a response without the recursion limit is exact in the own world, in each mode
abbrev pub KnownResponsesAreExact : StoredCalls → Type 0
KnownResponsesAreExact calls =
    (mode : ErrorHandling) (ans : Functions) (s : Setting) → IsAllKnown calls ans s
    → (sigma : Text → AbstractValue) (levels : ℕ) (ps : List Policy) (r : Authorized) → HaveKnownConditions ans ps
    → IsResponse mode (PolicyRuns s calls levels) ps r → HaveNoLimit r.errors
    → IsExactResponse mode s.extensions ans (own_world s sigma) ps r

-- where no condition is higher than the limit, none meets it
abbrev pub LowConditionsMeetNoLimit : StoredCalls → Type 0
LowConditionsMeetNoLimit calls =
    (mode : ErrorHandling) (ans : Functions) (s : Setting) → IsAllKnown calls ans s
    → (levels : ℕ) (ps : List Policy) (r : Authorized)
    → HaveKnownConditions ans ps → IsResponse mode (PolicyRuns s calls levels) ps r → AreNoHigher ps levels
    → HaveNoLimit r.errors

-- the own world completes a call in which nothing is unknown, whatever its unknowns are
abbrev pub OwnWorldCompletes : Type 0
OwnWorldCompletes =
    (ans : Functions) (s : Setting) (sigma : Text → AbstractValue) (ps : List Policy) → HasNothingUnknown s
    → ((n : Text) → s.map n ≡ None) → HaveKnownConditions ans ps → Completes ans (own_world s sigma) s ps

-- ---- the four facts, of two exact responses

-- the same decision for the same reasons
abbrev pub AgreeWhollyAs : Authorized → Authorized → Type 0
AgreeWhollyAs q r = (q.decided_as ≡ r.decided_as) × ((t : Text) → q.is_reason t ≡ r.is_reason t)

module _ (X : Extensions) (ans : Functions) (w : World) where
  -- the order of policies changes nothing
  abbrev pub OrderChangesNoResponse : Type 0
  OrderChangesNoResponse =
      (mode : ErrorHandling) (ps qs : List Policy) (r q : Authorized) → IsReordering Policy ps qs
      → IsExactResponse mode X ans w ps r → IsExactResponse mode X ans w qs q → AgreeWhollyAs q r

  -- an added forbid never turns Deny into Allow
  abbrev pub AddedForbidKeepsDeny : Type 0
  AddedForbidKeepsDeny =
      (mode : ErrorHandling) (before after : List Policy) (p : Policy) (r q : Authorized) → p.effect ≡ forbid
      → IsExactResponse mode X ans w (before ++ after) r → IsExactResponse mode X ans w (before ++ (p ∷ after)) q
      → r.decided_as ≡ deny → q.decided_as ≡ deny

  -- an added permit never turns Allow into Deny
  abbrev pub AddedPermitKeepsAllow : Type 0
  AddedPermitKeepsAllow =
      (mode : ErrorHandling) (before after : List Policy) (p : Policy) (r q : Authorized) → p.effect ≡ permit
      → IsExactResponse mode X ans w (before ++ after) r → IsExactResponse mode X ans w (before ++ (p ∷ after)) q
      → r.decided_as ≡ allow → q.decided_as ≡ allow

  -- where errors are skipped, taking out an erring policy changes neither decision nor reasons
  abbrev pub ErringChangesNoResponse : Type 0
  ErringChangesNoResponse =
      (before after : List Policy) (p : Policy) (r q : Authorized)
      → verdict (meaning X ans w p.slots p.condition) ≡ erring → IsExactResponse skip X ans w (before ++ after) r
      → IsExactResponse skip X ans w (before ++ (p ∷ after)) q → AgreeWhollyAs q r

  -- nor does taking out an erring permit, in each mode
  abbrev pub ErringPermitChangesNoResponse : Type 0
  ErringPermitChangesNoResponse =
      (mode : ErrorHandling) (before after : List Policy) (p : Policy) (r q : Authorized) → p.effect ≡ permit
      → verdict (meaning X ans w p.slots p.condition) ≡ erring → IsExactResponse mode X ans w (before ++ after) r
      → IsExactResponse mode X ans w (before ++ (p ∷ after)) q → AgreeWhollyAs q r

  -- where an erring forbid counts, taking it out changes the decision only where no other forbid counts and some permit
  -- is satisfied
  abbrev pub ErringForbidDecidesAlone : Type 0
  ErringForbidDecidesAlone =
      (before after : List Policy) (p : Policy) (r q : Authorized) → p.effect ≡ forbid
      → verdict (meaning X ans w p.slots p.condition) ≡ erring
      → IsExactResponse forbid_on_error X ans w (before ++ after) r
      → IsExactResponse forbid_on_error X ans w (before ++ (p ∷ after)) q → q.decided_as ≢ r.decided_as
      → (some_satisfied forbid (counted_each forbid_on_error X ans w (before ++ after)) ≡ false)
      × (some_satisfied permit (counted_each forbid_on_error X ans w (before ++ after)) ≡ true)
