use Rattle.std.proofs.Common.{suc, sym, ◌∙◌, subst}
use Rattle.cedar_model.specs.Terms.{both}
use Rattle.cedar_model.specs.Failures.{fails, out_of_memory}
use Rattle.cedar_model.proofs.Injections.{answers_is_not_fails}
use Rattle.cedar_expressions.specs.View.{view}
use Rattle.cedar_values.specs.Residuals.{residual_term}
use Rattle.cedar_errors.specs.Answers.{partial_answer}
use Rattle.cedar_errors.specs.Failures.{failure_of}
use Rattle.cedar_layers.specs.Policies.{slots_view}
use Rattle.cedar_evaluator.specs.Evaluations.{setting_of, calls_in}
use Rattle.cedar_evaluator.specs.Direct.{RunsWith}
use Rattle.cedar_evaluator.proofs.Joined.{kept_right, handed_up_right}
use Rattle.cedar_evaluator.proofs.evaluator.Evaluator.beside_residual.Goals as goal

pub returns-in-Ok-clause-answer : goal.returns-in-Ok-clause-answer
returns-in-Ok-clause-answer g c t h =
    kept_right (setting_of c.args.self.now (slots_view c.args.slots.now)) (calls_in c.args.self.now) c.args.levels t (view c.args.right.now) (residual_term c.args.left)
    (partial_answer c.part.result) (h (answers_is_not_fails _ out_of_memory)) c.part.ensures (view c.in-Ok.kept) (partial_answer c.answer_at.result) c.in-Ok.ensures
    (λ ok. c.answer_at.ensures.answer ∙ c.residual_connective.ensures (λ w. ok (c.answer_at.ensures.answer ∙ w)))

pub returns-in-Err-clause-answer : goal.returns-in-Err-clause-answer
returns-in-Err-clause-answer g c t h =
    let v = c.args.self.now in
    let slots = slots_view c.args.slots.now in
    subst (λ f. RunsWith v slots (suc c.args.levels) (both t (view c.args.right.now)) (fails f))
    (sym c.with_enclosing_loc.ensures.failure)
    (handed_up_right (setting_of v slots) (calls_in v) c.args.levels t (view c.args.right.now) (residual_term c.args.left)
    (partial_answer c.part.result) (h (answers_is_not_fails _ out_of_memory)) c.part.ensures (failure_of c.in-Err.error) c.in-Err.ensures)
