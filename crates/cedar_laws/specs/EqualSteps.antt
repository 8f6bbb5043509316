-- Steps and chains with equal arguments; their laws, which functions of `steps` have as their contracts.
use Rattle.std.specs.Prelude.{◌≡◌, ℕ, List, Result, Ok, Err}
use Rattle.cedar_model.specs.World.{Extensions}
use Rattle.cedar_model.specs.Settings.{ContextPart, absent_context, known_context, residual_context, Store, Resolution}
use Rattle.cedar_model.specs.Rules.{StoredCalls}
use Rattle.cedar_model.specs.Alike.{AreFunctional}
use Rattle.cedar_model.specs.Policies.{ErrorHandling}
use Rattle.cedar_model.specs.Configurations.{configured}
use Rattle.cedar_model.specs.Refusals.{Refusal}
use Rattle.cedar_model.specs.Chains.{Mapping, Response, Steps, ChainStep, ChainAnswers}
use Rattle.cedar_laws.specs.AlikeRuns.{AreAlikeRuns}
use Rattle.cedar_laws.specs.EqualRuns.{HaveOneAnswer}

-- where each stored function has one answer to the same arguments, a step answers one response or one refusal
abbrev pub StepsAreEqual : StoredCalls → Type 0
StepsAreEqual calls =
    HaveOneAnswer calls → (mode : ErrorHandling) (resolution : Resolution) (X : Extensions) (levels : ℕ) (m : Mapping)
    (store : Store) (old : Response) (x y : Result Response Refusal)
    → Steps (configured calls mode resolution X levels) m store old x
    → Steps (configured calls mode resolution X levels) m store old y → x ≡ y

-- and so does a chain
abbrev pub ChainsAreEqual : StoredCalls → Type 0
ChainsAreEqual calls =
    HaveOneAnswer calls → (mode : ErrorHandling) (resolution : Resolution) (X : Extensions) (levels : ℕ)
    (first : Response) (steps : List ChainStep) (x y : Result Response Refusal)
    → ChainAnswers (configured calls mode resolution X levels) first steps x
    → ChainAnswers (configured calls mode resolution X levels) first steps y → x ≡ y

-- a context of which nothing is evaluated again
abbrev pub IsSettled : ContextPart → Type 0
IsSettled absent_context = Unit {0}
IsSettled (known_context fs) = Unit {0}
IsSettled (residual_context fs) = ⊥

-- responses to one request, of alike runs
pub record AreAlikeTo (a b : Response) : Type 0 where
  pub mode_same : a.mode ≡ b.mode
  pub request_same : a.request ≡ b.request
  pub runs_alike : AreAlikeRuns a.rows b.rows a.errors b.errors

-- such responses, or one refusal
abbrev pub AnswerAlike : Result Response Refusal → Result Response Refusal → Type 0
AnswerAlike (Ok a) (Ok b) = AreAlikeTo a b
AnswerAlike (Ok a) (Err f) = ⊥
AnswerAlike (Err e) (Ok b) = ⊥
AnswerAlike (Err e) (Err f) = e ≡ f

-- from functional functions a step that evaluates no context again answers alike
abbrev pub StepsAreAlike : StoredCalls → Type 0
StepsAreAlike calls =
    AreFunctional calls → (mode : ErrorHandling) (resolution : Resolution) (X : Extensions) (levels : ℕ) (m : Mapping)
    (store : Store) (old : Response) (x y : Result Response Refusal) → IsSettled old.request.context_part
    → Steps (configured calls mode resolution X levels) m store old x
    → Steps (configured calls mode resolution X levels) m store old y → AnswerAlike x y
