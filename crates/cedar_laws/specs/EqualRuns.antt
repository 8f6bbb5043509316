-- Runs that are equal: where each stored function has one answer to the same arguments; and the laws of such runs,
-- which functions of `determinism` have as their contracts.
use Rattle.std.specs.Prelude.{◌≡◌, ℕ, List}
use Rattle.cedar_model.specs.Terms.{Text, Term}
use Rattle.cedar_model.specs.Values.{Represented}
use Rattle.cedar_model.specs.Failures.{Failure, Answer}
use Rattle.cedar_model.specs.Settings.{Setting}
use Rattle.cedar_model.specs.Rules.{StoredCalls, Runs}
use Rattle.cedar_model.specs.Policies.{Policy, ErrorHandling}
use Rattle.cedar_model.specs.Responses.{Row, RunOf}

-- each stored function has one answer to the same arguments, representations and fields of errors included
abbrev pub HaveOneAnswer : StoredCalls → Type 0
HaveOneAnswer calls =
    (f : Text) (vs : List Represented) (a b : Answer) → calls f vs a → calls f vs b → a ≡ b

-- then so has each expression, at each level
abbrev pub ExpressionsHaveOneAnswer : StoredCalls → Type 0
ExpressionsHaveOneAnswer calls =
    HaveOneAnswer calls → (s : Setting) (levels : ℕ) (t : Term) (a b : Answer) → Runs s calls levels t a
    → Runs s calls levels t b → a ≡ b

-- and two runs of the same policies are the same
abbrev pub RunsAreEqual : StoredCalls → Type 0
RunsAreEqual calls =
    HaveOneAnswer calls → (mode : ErrorHandling) (s : Setting) (levels : ℕ) (ps : List Policy) (rows others : List Row)
    (errors other_errors : List (Text × Failure)) → RunOf mode s calls levels ps rows errors
    → RunOf mode s calls levels ps others other_errors → (rows ≡ others) × (errors ≡ other_errors)
