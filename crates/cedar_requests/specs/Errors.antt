-- What the errors of making a context say.
use Rattle.std.specs.Prelude.{◌≡◌, ◌≢◌, Option}
use Rattle.cedar_model.specs.Failures.{recursion_limit, out_of_memory}
use Rattle.cedar_names.specs.declared.names.Loc.{Loc}
use Rattle.cedar_expressions.specs.declared.errors.ExpressionConstructionError.{ExpressionConstructionError}
use Rattle.cedar_expressions.specs.declared.errors.ExpressionConstructionError.TheVariants as constructions
use Rattle.cedar_expressions.specs.View.{expr_loc}
use Rattle.cedar_errors.specs.declared.evaluator.err.EvaluationError.{EvaluationError}
use Rattle.cedar_errors.specs.Failures.{failure_of}
use Rattle.cedar_requests.specs.declared.errors.ContextCreationError.{ContextCreationError}
use Rattle.cedar_requests.specs.declared.errors.ContextCreationError.TheVariants as refusals

-- an error of the evaluation is kept whole, and running out of memory stays out of memory
abbrev pub IsEvaluationRefusal : EvaluationError → ContextCreationError → Type 0
IsEvaluationRefusal e (refusals.NotARecord r) = ⊥
IsEvaluationRefusal e (refusals.Evaluation f) = (f ≡ e) × (failure_of e ≢ out_of_memory)
IsEvaluationRefusal e (refusals.ExpressionConstruction c) = ⊥
IsEvaluationRefusal e (refusals.Memory m) = failure_of e ≡ out_of_memory

-- so is an error of making the record
abbrev pub construction_refusal : ExpressionConstructionError → ContextCreationError
construction_refusal (constructions.DuplicateKey key context) =
    refusals.ExpressionConstruction (constructions.DuplicateKey key context)
construction_refusal (constructions.Memory e) = refusals.Memory e

-- the recursion limit was met
abbrev pub IsAtLimit : ContextCreationError → Type 0
IsAtLimit (refusals.NotARecord r) = ⊥
IsAtLimit (refusals.Evaluation e) = failure_of e ≡ recursion_limit
IsAtLimit (refusals.ExpressionConstruction c) = ⊥
IsAtLimit (refusals.Memory m) = ⊥

-- what is no record is named at its location
abbrev pub NamesAt : Option Loc → ContextCreationError → Type 0
NamesAt loc (refusals.NotARecord r) = expr_loc r.expr ≡ loc
NamesAt loc (refusals.Evaluation e) = Unit {0}
NamesAt loc (refusals.ExpressionConstruction c) = Unit {0}
NamesAt loc (refusals.Memory m) = Unit {0}
