-- How conditions come out.
use Rattle.std.specs.Prelude.{◌≡◌, ◌≢◌, Bool, Option, Result, Ok, Err, IfOk}
use Rattle.std.specs.declared.alloc.AllocError.{AllocError}
use Rattle.std.proofs.Common.{sym, ap, ◌∙◌, subst}
use Rattle.cedar_model.specs.Failures.{out_of_memory, Answer, fails}
use Rattle.cedar_model.specs.Responses.{Decided, decides, errs_with, leaves, decided}
use Rattle.cedar_errors.specs.declared.evaluator.err.EvaluationError.{EvaluationError}
use Rattle.cedar_errors.specs.Failures.{failure_of}
use Rattle.cedar_expressions.specs.declared.expr.Expr.{Expr}
use Rattle.cedar_names.specs.declared.names.Loc.{Loc}
use Rattle.cedar_expressions.specs.View.{view, expr_loc}
use Rattle.either.specs.declared.Either.{Either}
use Rattle.either.specs.declared.Either.TheVariants.{Left, Right}
use Rattle.cedar_evaluator.specs.Decisions.{PartlyDecidesBy, IfLeaves}
use Rattle.cedar_authorizer.specs.declared.responses.sheet.ConditionOutcome.{ConditionOutcome}
use Rattle.cedar_authorizer.specs.responses.Sheets.{outcome_view}
use Rattle.cedar_authorizer.specs.Running.{ComesOutBy}

-- an answer that decides something else than running out of memory is not out of memory
found : (a : Answer) (d : Decided) → d ≢ errs_with out_of_memory → d ≡ decided a → a ≢ fails out_of_memory
unfolding decided
found a d ok e is = ok (e ∙ ap decided is)

pub came_out : (May : Answer → Type 0) (d : Decided) → d ≢ errs_with out_of_memory → (d ≢ errs_with out_of_memory → (a : Answer) × May a × (d ≡ decided a)) → ComesOutBy May d
came_out May d ok by = let z = by ok in (z.0, z.1, found z.0 d ok z.2, z.2)

module _ (May : Answer → Type 0) where
  pub decided_out : (x : Either Bool Expr) (b : Bool) → x ≡ Left b → PartlyDecidesBy May (Ok x) → ComesOutBy May (decides b)
  decided_out x b is by =
      came_out May (decides b) (λ (h : decides b ≡ errs_with out_of_memory). cc) (subst (λ (y : Either Bool Expr). PartlyDecidesBy May (Ok y)) is by)

  pub left_out : (x : Either Bool Expr) (e f : Expr) → x ≡ Right e → f ≡ e → PartlyDecidesBy May (Ok x) → ComesOutBy May (leaves (view f))
  left_out x e f is same by =
      subst (λ (y : Expr). ComesOutBy May (leaves (view y))) (sym same) (came_out May (leaves (view e)) (λ (h : leaves (view e) ≡ errs_with out_of_memory). cc) (subst (λ (y : Either Bool Expr). PartlyDecidesBy May (Ok y)) is by))

  pub failed_out : (e : EvaluationError) (r : Result ConditionOutcome AllocError) → PartlyDecidesBy May (Err e) → IfOk r (λ o. failure_of e ≢ out_of_memory) → IfOk r (λ o. outcome_view o ≡ errs_with (failure_of e)) → IfOk r (λ o. ComesOutBy May (outcome_view o))
  failed_out e (Ok o) by ok is =
      subst (ComesOutBy May) (sym is) (came_out May (errs_with (failure_of e)) (λ h. let f : failure_of e ≡ out_of_memory = cc in ok f) by)
  failed_out e (Err x) by ok is = tt

-- what is left, put into a box, stands where it did
pub left_there : (l : Option Loc) (x : Either Bool Expr) (e f : Expr) → x ≡ Right e → f ≡ e → IfLeaves (Ok x) (λ r. expr_loc r ≡ l) → expr_loc f ≡ l
left_there l x e f is same at =
    ap expr_loc same ∙ subst (λ (y : Either Bool Expr). IfLeaves (Ok y) (λ r. expr_loc r ≡ l)) is at
