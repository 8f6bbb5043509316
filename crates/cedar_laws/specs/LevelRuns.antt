-- The laws of the levels of whole runs, which the functions of `levels` have as their contracts.
use Rattle.std.specs.Prelude.{◌≡◌, ◌⊎◌, ℕ, ◌≤◌, List, [], ◌∷◌, Option, Some, option_map}
use Rattle.cedar_model.specs.Terms.{Text}
use Rattle.cedar_model.specs.Failures.{Failure, recursion_limit, failure_kind}
use Rattle.cedar_model.specs.Settings.{Setting}
use Rattle.cedar_model.specs.Rules.{StoredCalls}
use Rattle.cedar_model.specs.Alike.{AreFunctional}
use Rattle.cedar_model.specs.Policies.{Policy, ErrorHandling}
use Rattle.cedar_model.specs.Responses.{Row, with_error, RunOf}
use Rattle.cedar_model.specs.Authorizations.{HaveNoLimit}
use Rattle.cedar_laws.specs.AlikeRuns.{erased_row}

-- a run none of whose errors is the recursion limit is a run with more levels
abbrev pub MoreLevelsKeepRuns : StoredCalls → Type 0
MoreLevelsKeepRuns calls =
    (mode : ErrorHandling) (s : Setting) (n m : ℕ) (ps : List Policy) (rows : List Row) (errors : List (Text × Failure))
    → n ≤ m → HaveNoLimit errors → RunOf mode s calls n ps rows errors → RunOf mode s calls m ps rows errors

-- a policy met the limit before, or is reported alike after it, with an error of the same kind or none
abbrev pub StaysButForLimit : Row → Option Failure → Row → Option Failure → Type 0
StaysButForLimit row error later_row later_error =
    (error ≡ Some recursion_limit)
    ⊎ ((erased_row row ≡ erased_row later_row)
    × (option_map failure_kind error ≡ option_map failure_kind later_error))

-- so it is of each policy in order, whose error, if any, is recorded in that order
abbrev pub StayButForLimits : List Row → List (Text × Failure) → List Row → List (Text × Failure) → Type 0
StayButForLimits [] errors [] later_errors = (errors ≡ []) × (later_errors ≡ [])
StayButForLimits [] errors (q ∷ qs) later_errors = ⊥
StayButForLimits (r ∷ rs) errors [] later_errors = ⊥
StayButForLimits (r ∷ rs) errors (q ∷ qs) later_errors =
    (error : Option Failure) × (rest : List (Text × Failure)) × (later_error : Option Failure)
    × (later_rest : List (Text × Failure)) × (r.id ≡ q.id) × (errors ≡ with_error r.id error rest)
    × (later_errors ≡ with_error q.id later_error later_rest) × StaysButForLimit r error q later_error
    × StayButForLimits rs rest qs later_rest

-- more levels change nothing but what met the limit, from functional functions
abbrev pub MoreLevelsChangeOnlyLimits : StoredCalls → Type 0
MoreLevelsChangeOnlyLimits calls =
    AreFunctional calls → (mode : ErrorHandling) (s : Setting) (n m : ℕ) (ps : List Policy) (rows later_rows : List Row)
    (errors later_errors : List (Text × Failure)) → n ≤ m → RunOf mode s calls n ps rows errors
    → RunOf mode s calls m ps later_rows later_errors → StayButForLimits rows errors later_rows later_errors
