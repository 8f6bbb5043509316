-- What calls that decide answer, as plain data.
use Rattle.std.specs.Prelude.{◌≡◌, ◌≢◌, Bool, Result, Ok, Err}
use Rattle.cedar_model.specs.Failures.{Failure, out_of_memory, Answer}
use Rattle.cedar_model.specs.Authorizations.{evaluated}
use Rattle.cedar_model.specs.Responses.{Decided, decides, errs_with, leaves, decided}
use Rattle.cedar_expressions.specs.declared.expr.Expr.{Expr}
use Rattle.cedar_expressions.specs.View.{view}
use Rattle.cedar_errors.specs.declared.evaluator.err.EvaluationError.{EvaluationError}
use Rattle.cedar_errors.specs.Failures.{failure_of}
use Rattle.either.specs.declared.Either.{Either}
use Rattle.either.specs.declared.Either.TheVariants.{Left, Right}

-- what a call that gives a boolean decided
abbrev pub decision_of : Result Bool EvaluationError → Result Bool Failure
decision_of (Ok b) = Ok b
decision_of (Err e) = Err (failure_of e)

-- what a call decided that gives a boolean, or the expression that is left
abbrev pub partly_decided : Result (Either Bool Expr) EvaluationError → Decided
partly_decided (Ok (Left b)) = decides b
partly_decided (Ok (Right e)) = leaves (view e)
partly_decided (Err e) = errs_with (failure_of e)

-- a call that gives a boolean decides by such an answer, unless it finds no memory
abbrev pub DecidesBy : (Answer → Type 0) → Result Bool EvaluationError → Type 0
DecidesBy May r = decision_of r ≢ Err out_of_memory → (x : Answer) × May x × (decision_of r ≡ evaluated x)

-- the same of one that may leave an expression
abbrev pub PartlyDecidesBy : (Answer → Type 0) → Result (Either Bool Expr) EvaluationError → Type 0
PartlyDecidesBy May r =
    partly_decided r ≢ errs_with out_of_memory → (x : Answer) × May x × (partly_decided r ≡ decided x)

-- where a call leaves an expression, this is so of it
abbrev pub IfLeaves : Result (Either Bool Expr) EvaluationError → (Expr → Type 0) → Type 0
IfLeaves (Ok (Left b)) P = Unit {0}
IfLeaves (Ok (Right e)) P = P e
IfLeaves (Err e) P = Unit {0}
