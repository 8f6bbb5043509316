-- The laws of the levels of the residual rules, which the functions of `levels` have as their contracts. They hold
-- whatever the stored functions answer.
use Rattle.std.specs.Prelude.{◌≡◌, ◌≢◌, ◌↔◌, ℕ, ◌<◌, ◌≤◌, ◌-◌, List, length, Option, Some}
use Rattle.cedar_model.specs.Terms.{Text, Term}
use Rattle.cedar_model.specs.Values.{Represented}
use Rattle.cedar_model.specs.Failures.{out_of_memory, Answer, fails, limit}
use Rattle.cedar_model.specs.Settings.{deep, Setting}
use Rattle.cedar_model.specs.Rules.{StoredCalls, Rule, Runs, Allows, Exceeds}
use Rattle.cedar_model.specs.World.{Functions}
use Rattle.cedar_model.specs.Agreement.{AgreesWithFunctions, EachStored, IsRestrictedPart}
use Rattle.cedar_model.specs.Alike.{AreAlike, AreFunctional}

-- more levels keep an answer
abbrev pub MoreLevelsKeepAnswers : StoredCalls → Type 0
MoreLevelsKeepAnswers calls =
    (s : Setting) (n m : ℕ) (t : Term) (a : Answer) → n ≤ m → Runs s calls n t a → a ≢ limit → Runs s calls m t a

-- at one level never both the limit and an answer
abbrev pub LimitIsAlone : StoredCalls → Type 0
LimitIsAlone calls =
    (s : Setting) → AreFunctional calls → (n : ℕ) (t : Term) (a : Answer) → Exceeds s calls t n → Runs s calls n t a
    → a ≡ limit

-- all answers that are allowed are alike
abbrev pub AllowedAnswersAreAlike : StoredCalls → Type 0
AllowedAnswersAreAlike calls =
    (s : Setting) → AreFunctional calls → (t : Term) (a b : Answer) → Allows s calls t a → Allows s calls t b
    → AreAlike a b

-- an answer takes more levels than those at which the limit is met
abbrev pub AnswersTakeMoreLevels : StoredCalls → Type 0
AnswersTakeMoreLevels calls =
    (s : Setting) → AreFunctional calls → (n m : ℕ) (t : Term) (a : Answer) → Exceeds s calls t n → a ≢ limit
    → Runs s calls m t a → n < m

-- what is allowed is what the rules give over what is allowed: no level and no limit is left in it
abbrev pub AllowedIsByTheRules : StoredCalls → Type 0
AllowedIsByTheRules calls =
    (s : Setting) (t : Term) (a : Answer) → a ≢ limit → (Allows s calls t a ↔ Rule s calls (Allows s calls) t a)

-- one layer more, by the number of levels that is left
abbrev pub LayersAreLevels : StoredCalls → Type 0
LayersAreLevels calls =
    (s : Setting) (n : ℕ) (t : Term) (a : Answer) → 0 < n → Rule s calls (Runs s calls (n - 1)) t a → Runs s calls n t a

-- each function that exists answers to its own number of arguments
abbrev pub FunctionsAnswer : StoredCalls → (Text → Option ℕ) → Type 0
FunctionsAnswer calls arity =
    (f : Text) (vs : List Represented) → arity f ≡ Some (length vs) → (a : Answer) × calls f vs a

-- no function answers the recursion limit
abbrev pub FunctionsMeetNoLimit : StoredCalls → Type 0
FunctionsMeetNoLimit calls = (f : Text) (vs : List Represented) → calls f vs limit → ⊥

-- nor out of memory
abbrev pub FunctionsFindMemory : StoredCalls → Type 0
FunctionsFindMemory calls = (f : Text) (vs : List Represented) → calls f vs (fails out_of_memory) → ⊥

-- then no expression does
abbrev pub AnswersFindMemory : StoredCalls → Type 0
AnswersFindMemory calls =
    FunctionsFindMemory calls → (s : Setting) (n : ℕ) (t : Term) (a : Answer) → Runs s calls n t a
    → a ≢ fails out_of_memory

-- at each level there is an answer, where the functions that exist answer
abbrev pub LevelsHaveAnswers : StoredCalls → Type 0
LevelsHaveAnswers calls =
    (s : Setting) → FunctionsAnswer calls s.extensions.arity → (n : ℕ) (t : Term) → (a : Answer) × Runs s calls n t a

-- and each expression has an answer at some level: with deep resolution where stored residuals are restricted, so that
-- none reads the store again
abbrev pub ExpressionsHaveAnswers : StoredCalls → Type 0
ExpressionsHaveAnswers calls =
    (s : Setting) → FunctionsAnswer calls s.extensions.arity → FunctionsMeetNoLimit calls →
    (s.resolution ≡ deep → EachStored IsRestrictedPart s.store) → (t : Term) → (a : Answer) × Allows s calls t a

-- where the limit is met, it is met with fewer levels too: the need is one number
abbrev pub NeedIsThreshold : StoredCalls → Type 0
NeedIsThreshold calls =
    (s : Setting) (m n : ℕ) (t : Term) → m ≤ n → Exceeds s calls t n → Exceeds s calls t m

-- stored functions that agree with one answer to equal arguments answer alike
abbrev pub AgreedFunctionsAreFunctional : StoredCalls → Type 0
AgreedFunctionsAreFunctional calls = (ans : Functions) → AgreesWithFunctions ans calls → AreFunctional calls
