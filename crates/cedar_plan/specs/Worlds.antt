-- What is told of an entity by the plan of a response, and what a decision that is told says of worlds.
use Rattle.std.specs.Prelude.{◌≡◌, true, List, Option, Some}
use Rattle.cedar_model.specs.Terms.{Text, EntityName}
use Rattle.cedar_model.specs.World.{World, Extensions, Functions}
use Rattle.cedar_model.specs.Values.{AbstractValue}
use Rattle.cedar_model.specs.Settings.{StoredEntity, Store, RequestPart, Setting}
use Rattle.cedar_model.specs.Agreement.{CompletesWith, HasNothingUnknown, own_world}
use Rattle.cedar_model.specs.Policies as model
use Rattle.cedar_model.specs.Policies.{counted_each, decision}
use Rattle.cedar_model.specs.Configurations.{Configuration}
use Rattle.cedar_model.specs.Responses.{Stand, FitPolicies}
use Rattle.cedar_model.specs.Reports.{given_decision}
use Rattle.cedar_model.specs.Authorizations.{Authorized, HaveNoLimit, HaveKnownConditions}
use Rattle.cedar_model.specs.Chains.{ChainStep}
use Rattle.cedar_model.specs.Headline.{Premises}
use Rattle.cedar_authorizer.specs.declared.responses.partial_response.PartialResponse.{PartialResponse}
use Rattle.cedar_authorizer.specs.responses.Rows.{mode_of, rows_view}
use Rattle.cedar_authorizer.specs.responses.Promises.{IsDecisionOf}
use Rattle.cedar_authorizer.specs.Running.{errors_of, ResponseStands}
use Rattle.cedar_authorizer.specs.Configured.{asked_of}
use Rattle.cedar_authorizer.specs.Responding.{IsKnownResponse}
use Rattle.cedar_authorizer.specs.Headline.{IsHeadline}
use Rattle.cedar_filter.specs.Faults.{can_stand_for}
use Rattle.cedar_filter.specs.Rows.{HasRow}
use Rattle.cedar_plan.specs.declared.plans.Plan.{Plan}
use Rattle.cedar_plan.specs.Planned.{row_name, row_type, IsPlanOf}
use Rattle.cedar_plan.specs.Told.{rows_at, decision_at, CanGoEitherWay}

-- wherever the response stands, and the unknown `n` stands for the entity `e` with exactly these attributes, tags and
-- ancestors, the policies decide so
abbrev pub IsDecisionAt : PartialResponse → Text → EntityName → StoredEntity → model.Decision → Type 0
IsDecisionAt r n e x d =
    (X : Extensions) (ans : Functions) (w : World) (ps : List model.Policy) → Stand (mode_of r) X ans w ps (rows_view r)
    → HasRow X ans w n e x → decision (counted_each (mode_of r) X ans w ps) ≡ d

-- ---- of the response that this is the plan of

module _ (p : Plan) where
  -- this is told of the entity
  abbrev pub IsToldOf : EntityName → StoredEntity → Option model.Decision → Type 0
  IsToldOf e x told =
      (r : PartialResponse) → IsPlanOf r p
      → told ≡ decision_at (mode_of r) (row_name p) (row_type p) e x (rows_view r)

  -- if the entity can stand for the unknown, the policies of which it does not tell can make it Allow, and can make it
  -- Deny
  abbrev pub IsOpenAt : EntityName → StoredEntity → Type 0
  IsOpenAt e x =
      (r : PartialResponse) → IsPlanOf r p → can_stand_for (row_type p) e ≡ true
      → CanGoEitherWay (rows_at (mode_of r) (row_name p) (row_type p) e x (rows_view r))

  -- the policies decide so at the entity
  abbrev pub DecidesAt : EntityName → StoredEntity → model.Decision → Type 0
  DecidesAt e x d = (r : PartialResponse) → IsPlanOf r p → IsDecisionAt r (row_name p) e x d

  -- this is given, whatever the row is
  abbrev pub IsGiven : Option model.Decision → Type 0
  IsGiven given = (r : PartialResponse) → IsPlanOf r p → given ≡ given_decision (rows_view r)

  -- each entity that can stand for the unknown tells this decision
  abbrev pub IsToldOfEach : model.Decision → Type 0
  IsToldOfEach d =
      (r : PartialResponse) → IsPlanOf r p → (e : EntityName) (x : StoredEntity)
      → can_stand_for (row_type p) e ≡ true
      → decision_at (mode_of r) (row_name p) (row_type p) e x (rows_view r) ≡ Some d

  -- the policies decide so, whatever the row is
  abbrev pub DecidesAlways : model.Decision → Type 0
  DecidesAlways d = (r : PartialResponse) → IsPlanOf r p → IsDecisionOf (rows_view r) d

-- ---- whole requests

module _ (c : Configuration) where
  -- a decision at an entity is that of the request to which the response is, in each completion that has the entity as
  -- its row
  abbrev pub DecisionsAreOfRequests : Type 0
  DecisionsAreOfRequests =
      (s : Setting) (ps : List model.Policy) (r : PartialResponse) (n : Text) (e : EntityName) (x : StoredEntity)
      (d : model.Decision) → IsDecisionAt r n e x d → mode_of r ≡ c.mode → ResponseStands c s ps r
      → HaveNoLimit (errors_of r) → (ans : Functions) (w : World) → CompletesWith c.calls ans w s
      → FitPolicies ans w ps → HasRow s.extensions ans w n e x
      → decision (counted_each c.mode s.extensions ans w ps) ≡ d

  -- so it is of the last response of steps
  abbrev pub DecisionsAreOfSteps : Type 0
  DecisionsAreOfSteps =
      (s : Setting) (ps : List model.Policy) (steps : List ChainStep) (r : PartialResponse) (n : Text)
      (e : EntityName) (x : StoredEntity) (d : model.Decision) → IsDecisionAt r n e x d → mode_of r ≡ c.mode
      → IsHeadline c s ps steps r → (ans : Functions) (w : World)
      → Premises c s.request s.store ps steps ans w (errors_of r) → HasRow s.extensions ans w n e x
      → decision (counted_each c.mode s.extensions ans w ps) ≡ d

  -- where a request of which nothing is unknown has an own world that completes the first and has the row, the decision
  -- is the one that is answered to it
  abbrev pub DecisionsAreAnswered : Type 0
  DecisionsAreAnswered =
      (request known : RequestPart) (store whole : Store) (ps : List model.Policy) (r : PartialResponse)
      (answer : Authorized) (n : Text) (e : EntityName) (x : StoredEntity) (d : model.Decision)
      → IsDecisionAt r n e x d → mode_of r ≡ c.mode → ResponseStands c (asked_of c request store) ps r
      → HaveNoLimit (errors_of r) → IsKnownResponse c (asked_of c known whole) ps answer → HaveNoLimit answer.errors
      → HasNothingUnknown (asked_of c known whole) → (ans : Functions) → HaveKnownConditions ans ps
      → (sigma : Text → AbstractValue)
      → CompletesWith c.calls ans (own_world (asked_of c known whole) sigma) (asked_of c request store)
      → FitPolicies ans (own_world (asked_of c known whole) sigma) ps
      → HasRow c.extensions ans (own_world (asked_of c known whole) sigma) n e x → answer.decided_as ≡ d
