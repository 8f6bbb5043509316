-- What a set of policies comes out as, judged by what an evaluator answers to their conditions; and when an answer, a
-- decided condition or a response is exact where nothing is unknown. In Cedar's documentation: the page on
-- authorization.
use Rattle.std.specs.Prelude.{◌≡◌, ◌≢◌, ◌↔◌, ℕ, ◌≤◌, Bool, true, false, List, [], ◌∷◌, map, Option, Some, None, Result}
use Rattle.std.specs.Prelude.{Ok, Err}
use Rattle.cedar_model.specs.Terms.{Text, Term}
use Rattle.cedar_model.specs.Outcomes.{ErrorKind, type_error, Outcome, gives, errs, bool_of, has_text}
use Rattle.cedar_model.specs.World.{World, Extensions, Functions}
use Rattle.cedar_model.specs.Meaning.{meaning}
use Rattle.cedar_model.specs.Failures.{Failure, recursion_limit, FailureKind, of_meaning, failure_kind, Answer, limit}
use Rattle.cedar_model.specs.Settings.{Setting}
use Rattle.cedar_model.specs.Rules.{StoredCalls, Exceeds}
use Rattle.cedar_model.specs.Agreement.{AnswersOutcome, height, IsKnown, AgreesAndFits}
use Rattle.cedar_model.specs.Policies.{Policy, Verdict, satisfied, unsatisfied, erring, Judged, Decision, decision}
use Rattle.cedar_model.specs.Policies.{reasons, ErrorHandling, counting, counted_each}
use Rattle.cedar_model.specs.Responses.{FitPolicies, decided, result_of, with_error}

-- ---- what conditions come out as

-- the bool that a condition's answer decides, or an error: another value is a type error that expects a bool, and a
-- residual is left
abbrev pub evaluated : Answer → Result Bool Failure
evaluated a = result_of (decided a)

unfoldable pub bool_meaning : Option Bool → Result Bool ErrorKind
bool_meaning (Some b) = Ok b
bool_meaning None = Err type_error

-- what a condition means: a bool, or an error; another value is a type error
unfoldable pub condition_meaning : Outcome → Result Bool ErrorKind
condition_meaning (gives v) = bool_meaning (bool_of v)
condition_meaning (errs k) = Err k

unfoldable pub bool_verdict : Bool → Verdict
bool_verdict true = satisfied
bool_verdict false = unsatisfied

-- the verdict on a policy whose condition comes out so
unfoldable pub result_verdict : {E : Type 0} → Result Bool E → Verdict
result_verdict (Ok b) = bool_verdict b
result_verdict (Err e) = erring

-- the error, if there is one
unfoldable pub error_in : {E : Type 0} → Result Bool E → Option E
error_in (Ok b) = None
error_in (Err e) = Some e

-- ---- responses

abbrev pub judged_by : Policy → Result Bool Failure → Judged
judged_by p r = record { id = p.id; effect = p.effect; verdict_of = result_verdict r }

-- each policy in order is judged by an answer that its condition may have, and its error, if it erred, is recorded in
-- that order
abbrev pub JudgesEach : (Policy → Answer → Type 0) → List Policy → List Judged → List (Text × Failure) → Type 0
JudgesEach May [] js errors = (js ≡ []) × (errors ≡ [])
JudgesEach May (p ∷ ps) js errors =
    (a : Answer) × (rest : List Judged) × (later : List (Text × Failure)) × May p a × JudgesEach May ps rest later
    × (js ≡ judged_by p (evaluated a) ∷ rest) × (errors ≡ with_error p.id (error_in (evaluated a)) later)

-- a decision, which ids are reasons for it, and the errors under the ids of the policies that erred
pub record Authorized : Type 0 where
  pub decided_as : Decision
  pub is_reason : Text → Bool
  pub errors : List (Text × Failure)

-- the response to policies whose conditions may answer so: decision and reasons are by the verdicts that count
abbrev pub IsResponse : ErrorHandling → (Policy → Answer → Type 0) → List Policy → Authorized → Type 0
IsResponse mode May ps r =
    (js : List Judged) × JudgesEach May ps js r.errors × (r.decided_as ≡ decision (counting mode js))
    × ((t : Text) → r.is_reason t ≡ has_text t (reasons (counting mode js)))

-- ---- exactness, where nothing is unknown

-- the recursion limit is met exactly where the need is above it, which it never is where the expression is no higher;
-- else the answer is the meaning's value or an error of its kind
pub record IsExact (calls : StoredCalls) (ans : Functions) (w : World) (s : Setting) (levels : ℕ) (t : Term)
    (a : Answer) : Type 0 where
  pub limit_by_need : (a ≡ limit) ↔ Exceeds s calls t levels
  pub limit_by_height : height t ≤ levels → a ≢ limit
  pub meant : a ≢ limit → AnswersOutcome a (meaning s.extensions ans w s.slots t)

-- the bool that is meant, or an error of the kind that is meant
abbrev pub Decides : Result Bool Failure → Result Bool ErrorKind → Type 0
Decides (Ok b) (Ok c) = b ≡ c
Decides (Ok b) (Err k) = ⊥
Decides (Err e) (Ok c) = ⊥
Decides (Err e) (Err k) = failure_kind e ≡ of_meaning k

-- the same of a condition
pub record IsExactDecision (calls : StoredCalls) (ans : Functions) (w : World) (s : Setting) (levels : ℕ) (t : Term)
    (r : Result Bool Failure) : Type 0 where
  pub limit_by_need : (r ≡ Err recursion_limit) ↔ Exceeds s calls t levels
  pub limit_by_height : height t ≤ levels → r ≢ Err recursion_limit
  pub meant : r ≢ Err recursion_limit → Decides r (condition_meaning (meaning s.extensions ans w s.slots t))

-- the erring policies in order, each with the kind of its error
unfoldable pub policy_errors : Extensions → Functions → World → List Policy → List (Text × ErrorKind)
policy_errors X ans w [] = []
policy_errors X ans w (p ∷ ps) =
    with_error p.id (error_in (condition_meaning (meaning X ans w p.slots p.condition))) (policy_errors X ans w ps)

-- errors by their kinds
abbrev pub failure_kinds : List (Text × Failure) → List (Text × FailureKind)
failure_kinds es = map {B = Text × FailureKind} (λ e. (e.0, failure_kind e.1)) es

abbrev pub HaveKinds : List (Text × Failure) → List (Text × ErrorKind) → Type 0
HaveKinds es ks = failure_kinds es ≡ map {B = Text × FailureKind} (λ k. (k.0, of_meaning k.1)) ks

-- the decision and the reasons of the policies in the world, in the mode, and exactly the erring policies, in order,
-- each with an error of its kind
pub record IsExactResponse (mode : ErrorHandling) (X : Extensions) (ans : Functions) (w : World) (ps : List Policy)
    (r : Authorized) : Type 0 where
  pub decision_is : r.decided_as ≡ decision (counted_each mode X ans w ps)
  pub reasons_are : (t : Text) → r.is_reason t ≡ has_text t (reasons (counted_each mode X ans w ps))
  pub errors_are : HaveKinds r.errors (policy_errors X ans w ps)

-- no error is the recursion limit
abbrev pub HaveNoLimit : List (Text × Failure) → Type 0
HaveNoLimit [] = Unit {0}
HaveNoLimit (e ∷ es) = (e.1 ≢ recursion_limit) × HaveNoLimit es

-- no condition has an unknown, or a call that can answer one
abbrev pub HaveKnownConditions : Functions → List Policy → Type 0
HaveKnownConditions ans [] = Unit {0}
HaveKnownConditions ans (p ∷ ps) = IsKnown ans p.condition × HaveKnownConditions ans ps

-- no condition is higher than this
abbrev pub AreNoHigher : List Policy → ℕ → Type 0
AreNoHigher [] n = Unit {0}
AreNoHigher (p ∷ ps) n = (height p.condition ≤ n) × AreNoHigher ps n

-- a world agrees with all that an authorization is given and fits it, each condition too
pub record Completes (ans : Functions) (w : World) (s : Setting) (ps : List Policy) : Type 0 where
  pub agreement : AgreesAndFits ans w s
  pub conditions_fit : FitPolicies ans w ps
