use Rattle.std.proofs.Common.{◌≡◌, [], ◌∷◌, ap, subst}
use Rattle.std.specs.Rc.{rc_str_bytes}
use Rattle.cedar_expressions.specs.View.{view}
use Rattle.cedar_model.specs.Terms.{Text, Term}
use Rattle.cedar_model.specs.Failures.{answers, fails}
use Rattle.cedar_model.specs.Rules.{Meets}
use Rattle.cedar_errors.specs.Failures.{failure_of}
use Rattle.cedar_values.specs.Residuals.{partial_view}
use Rattle.cedar_restricted.specs.Evaluations.{IsAnswerWithin}
use Rattle.cedar_restricted.specs.Evaluators.{extensions_read, calls_in, limit_of}
use Rattle.cedar_restricted.specs.Views.{restricted_term, borrowed_term}
use Rattle.cedar_json_reader.specs.Paths.{at_key}
use Rattle.cedar_json_reader.specs.FailedEntities.{IsToldAt}
use Rattle.cedar_json_reader.proofs.Failed.{part_failed}
use Rattle.cedar_json_reader.proofs.evaluation.part.Goals as goal

pub returns-in-Ok-clause-answer : goal.returns-in-Ok-clause-answer
returns-in-Ok-clause-answer g c =
    let same : borrowed_term c.as_borrowed.result ≡ restricted_term c.args.expr.now = ap view c.as_borrowed.ensures in
    λ s bare. subst (λ (t : Term). IsAnswerWithin s (calls_in c.args.evaluator.now) (limit_of c.args.evaluator.now) t (answers (partial_view c.in-Ok.part))) same
    (c.in-Ok.ensures.answer s bare (λ e. absurd (cc)))

pub returns-in-Err-clause-failed : goal.returns-in-Err-clause-failed
returns-in-Err-clause-failed g c =
    let calls = calls_in c.args.evaluator.now in
    let n = limit_of c.args.evaluator.now in
    let y = c.in-Err.error in
    let same : borrowed_term c.as_borrowed.result ≡ restricted_term c.args.expr.now = ap view c.as_borrowed.ensures in
    part_failed (extensions_read c.args.evaluator.now) calls n (rc_str_bytes c.args.key.now) (restricted_term c.args.expr.now) y c.refuse_evaluation.result
    (λ s bare. subst (λ (t : Term). Meets (IsAnswerWithin s calls n t) (fails (failure_of y))) same (c.in-Err.ensures.answer s bare))
    (subst (λ (k : Text). IsToldAt (at_key k ∷ []) y c.refuse_evaluation.result) c.as_str.ensures.value c.refuse_evaluation.ensures)
