-- The laws of steps and chains, which the functions of `chains` have as their contracts.
use Rattle.std.specs.Prelude.{◌≡◌, ◌↔◌, ◌⊎◌, ℕ, false, List, ◌++◌, Some, Result, Ok, Err}
use Rattle.cedar_model.specs.Terms.{Text}
use Rattle.cedar_model.specs.Failures.{Failure, failure_kind}
use Rattle.cedar_model.specs.World.{Extensions}
use Rattle.cedar_model.specs.Settings.{RequestPart, Store, Resolution}
use Rattle.cedar_model.specs.Rules.{StoredCalls}
use Rattle.cedar_model.specs.laws.Levels.{FunctionsAnswer, FunctionsFindMemory}
use Rattle.cedar_model.specs.Alike.{AreFunctional}
use Rattle.cedar_model.specs.Policies.{Policy, Decision, ErrorHandling}
use Rattle.cedar_model.specs.Configurations.{configured}
use Rattle.cedar_model.specs.Refusals.{Refusal, context_fails}
use Rattle.cedar_model.specs.Chains.{Mapping, Response, Begins, Steps, StepsTo, has_limit}
use Rattle.cedar_model.specs.Chains.{ChainStep, ChainAnswers, ChainOf}
use Rattle.cedar_model.specs.Authorizations.{HaveNoLimit}
use Rattle.cedar_model.specs.Reports.{ids, given_decision, must_determine, may_determine}
use Rattle.cedar_model.specs.laws.Reports.{Within}

-- where the functions that exist answer, and never running out of memory, there is a first response to policies
abbrev pub ChainsBegin : StoredCalls → Type 0
ChainsBegin calls =
    FunctionsFindMemory calls → (mode : ErrorHandling) (resolution : Resolution) (X : Extensions) (levels : ℕ)
    → FunctionsAnswer calls X.arity → (request : RequestPart) (store : Store) (ps : List Policy)
    → (first : Response) × Begins (configured calls mode resolution X levels) request store ps first

-- each step answers a response or a refusal
abbrev pub StepsAnswer : StoredCalls → Type 0
StepsAnswer calls =
    FunctionsFindMemory calls → (mode : ErrorHandling) (resolution : Resolution) (X : Extensions) (levels : ℕ)
    → FunctionsAnswer calls X.arity → (m : Mapping) (store : Store) (old : Response)
    → (x : Result Response Refusal) × Steps (configured calls mode resolution X levels) m store old x

-- and so does each chain
abbrev pub ChainsAnswer : StoredCalls → Type 0
ChainsAnswer calls =
    FunctionsFindMemory calls → (mode : ErrorHandling) (resolution : Resolution) (X : Extensions) (levels : ℕ)
    → FunctionsAnswer calls X.arity → (first : Response) (steps : List ChainStep)
    → (x : Result Response Refusal) × ChainAnswers (configured calls mode resolution X levels) first steps x

-- the same refusal, or errors of one kind of the context
abbrev pub AreAlikeRefusals : Refusal → Refusal → Type 0
AreAlikeRefusals e f =
    (e ≡ f) ⊎ ((d : Failure) × (g : Failure) × (e ≡ context_fails d) × (f ≡ context_fails g)
    × (failure_kind d ≡ failure_kind g))

-- responses, or refusals that are alike
abbrev pub AreAlikeSteps : Result Response Refusal → Result Response Refusal → Type 0
AreAlikeSteps (Ok a) (Ok b) = Unit {0}
AreAlikeSteps (Ok a) (Err f) = ⊥
AreAlikeSteps (Err e) (Ok b) = ⊥
AreAlikeSteps (Err e) (Err f) = AreAlikeRefusals e f

-- from functional functions a step answers responses alone, or one refusal
abbrev pub RefusalIsOne : StoredCalls → Type 0
RefusalIsOne calls =
    AreFunctional calls → (mode : ErrorHandling) (resolution : Resolution) (X : Extensions) (levels : ℕ)
    (m : Mapping) (store : Store) (old : Response) (x y : Result Response Refusal)
    → Steps (configured calls mode resolution X levels) m store old x
    → Steps (configured calls mode resolution X levels) m store old y → AreAlikeSteps x y

-- the test for the recursion limit says so
abbrev pub LimitsAreSeen : Type 0
LimitsAreSeen = (errors : List (Text × Failure)) → HaveNoLimit errors ↔ (has_limit errors ≡ false)

-- where the last response holds no recursion limit, none before it does: after whichever of the steps there is a
-- response without one, from which the others lead to the last
abbrev pub NoEarlierLimit : StoredCalls → Type 0
NoEarlierLimit calls =
    (mode : ErrorHandling) (resolution : Resolution) (X : Extensions) (levels : ℕ) (first last : Response)
    (before after : List ChainStep)
    → ChainOf (configured calls mode resolution X levels) first (before ++ after) last → HaveNoLimit last.errors
    → (middle : Response) × ChainOf (configured calls mode resolution X levels) first before middle
    × HaveNoLimit middle.errors × ChainOf (configured calls mode resolution X levels) middle after last

-- nothing is taken back: where a step succeeds without a recursion limit, a given decision stays, no id leaves those
-- that must determine it, and none comes to those that may; whatever worlds and functions there are
pub record KeepsWhatIsGiven (old new : Response) : Type 0 where
  pub decision_stays : (d : Decision) → given_decision old.rows ≡ Some d → given_decision new.rows ≡ Some d
  pub must_stays : Within (ids (must_determine old.rows)) (ids (must_determine new.rows))
  pub may_stays : Within (ids (may_determine new.rows)) (ids (may_determine old.rows))

abbrev pub NothingIsTakenBack : StoredCalls → Type 0
NothingIsTakenBack calls =
    (mode : ErrorHandling) (resolution : Resolution) (X : Extensions) (levels : ℕ) (m : Mapping) (store : Store)
    (old new : Response)
    → StepsTo (configured calls mode resolution X levels) m store old new → HaveNoLimit new.errors
    → KeepsWhatIsGiven old new
