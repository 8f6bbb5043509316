-- What operators beside residuals are given and answer, as plain data.
use Rattle.std.specs.Prelude.{◌≡◌, ◌≢◌, ◌||◌, Bool, true, false, Option, None, Some, Result, Ok, Err}
use Rattle.cedar_model.specs.Terms.{Text, Term, get_attribute, Fields}
use Rattle.cedar_model.specs.Shapes.{is_projectable}
use Rattle.cedar_model.specs.Failures as model
use Rattle.cedar_model.specs.Failures.{out_of_memory, value, residual, Answer, fails, answers_residual}
use Rattle.cedar_model.specs.Failures.{FailureKind}
use Rattle.cedar_model.specs.Settings.{Setting}
use Rattle.cedar_model.specs.Operators.{attribute_answer, term_at, field_names, key_is_missing}
use Rattle.cedar_model.specs.Rules.{MayAnswer, Best, kept, handed_up, fields_of_record}
use Rattle.cedar_model.specs.Chains.{is_limit}
use Rattle.cedar_expressions.specs.declared.expr.Expr.{Expr}
use Rattle.cedar_expressions.specs.View.{view}
use Rattle.cedar_errors.specs.Answers.{partial_answer}
use Rattle.cedar_errors.specs.declared.evaluator.err.EvaluationError.{EvaluationError}
use Rattle.cedar_errors.specs.Failures.{failure_of}
use Rattle.cedar_errors.specs.Finals.{is_of_memory}
use Rattle.cedar_operators.specs.declared.partial.attributes.Projected.{Projected}
use Rattle.cedar_operators.specs.declared.partial.attributes.Projected.TheVariants as projections

-- ---- an attribute of a part

-- an answer, or a part of a record that is to be interpreted again
pub data Projection : Type 0 where
  answered : Answer → Projection
  interpreted_again : Term → Projection

-- a part of a projectable record is interpreted again; another record keeps it
unfoldable pub projected : Bool → Term → Text → Term → Projection
projected true r k part = interpreted_again part
projected false r k part = answered (answers_residual (get_attribute r k))

unfoldable pub projection_of : Option Term → Fields → Term → Text → Projection
projection_of None fs r k = answered (fails (key_is_missing k (field_names fs)))
projection_of (Some part) fs r k = projected (is_projectable r) r k part

unfoldable pub projection_at : Option Fields → Term → Text → Projection
projection_at None r k = answered (answers_residual (get_attribute r k))
projection_at (Some fs) r k = projection_of (term_at k fs) fs r k

-- the attribute of a part, where stored residuals are answered as they are stored
unfoldable pub projection : Setting → model.PartialValue → Text → Projection
projection s (value v) k = answered (attribute_answer s v k)
projection s (residual r) k = projection_at (fields_of_record r) r k

-- what is answered once a part that is to be interpreted again has answered
abbrev pub AnswersProjection : MayAnswer → Projection → Answer → Type 0
AnswersProjection May (answered b) a = a ≡ b
AnswersProjection May (interpreted_again t) a = May t a

abbrev pub projected_view : Projected → Projection
projected_view (projections.Answer r) = answered (partial_answer r)
projected_view (projections.Attribute e) = interpreted_again (view e)

-- a call comes to this, unless it finds no memory
abbrev pub ProjectsTo : Projected → Projection → Type 0
ProjectsTo p q = projected_view p ≢ answered (fails out_of_memory) → projected_view p ≡ q

-- ---- best effort

-- an expression that is kept, or an error that is handed up
abbrev pub best_view : Result Expr EvaluationError → Best
best_view (Ok e) = kept (view e)
best_view (Err e) = handed_up (failure_of e)

-- a call keeps or hands up this, unless it finds no memory
abbrev pub IsBest : Result Expr EvaluationError → Best → Type 0
IsBest r b = best_view r ≢ handed_up out_of_memory → best_view r ≡ b
