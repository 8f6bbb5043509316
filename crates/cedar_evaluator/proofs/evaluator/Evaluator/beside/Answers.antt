use Rattle.std.proofs.Common.{suc, Ok, sym, ap, ◌∙◌, subst}
use Rattle.cedar_model.specs.Terms.{both}
use Rattle.cedar_model.specs.Failures.{fails}
use Rattle.cedar_expressions.specs.View.{view}
use Rattle.cedar_errors.specs.Answers.{partial_answer}
use Rattle.cedar_errors.specs.Failures.{failure_of}
use Rattle.cedar_layers.specs.Policies.{slots_view}
use Rattle.cedar_evaluator.specs.Evaluations.{setting_of, calls_in}
use Rattle.cedar_evaluator.specs.Direct.{RunsWith}
use Rattle.cedar_evaluator.proofs.Joined.{failed_left}
use Rattle.cedar_evaluator.proofs.evaluator.Evaluator.beside.Goals as goal

pub returns-in-Ok-Value-clause-answer : goal.returns-in-Ok-Value-clause-answer
returns-in-Ok-Value-clause-answer g c t h =
    c.beside_value.ensures.answer t
    (subst (λ r. RunsWith c.args.self.now (slots_view c.args.slots.now) c.args.levels t (partial_answer r))
    (c.in-Ok-Value.is ∙ ap Ok c.in-Ok-Value.field-0-is) h)

pub returns-in-Ok-Residual-clause-answer : goal.returns-in-Ok-Residual-clause-answer
returns-in-Ok-Residual-clause-answer g c t h =
    c.beside_residual.ensures.answer t
    (subst (λ r. RunsWith c.args.self.now (slots_view c.args.slots.now) c.args.levels t (partial_answer r))
    (c.in-Ok-Residual.is ∙ ap Ok c.in-Ok-Residual.field-0-is) h)

pub returns-in-Err-clause-answer : goal.returns-in-Err-clause-answer
returns-in-Err-clause-answer g c t h =
    let v = c.args.self.now in
    let slots = slots_view c.args.slots.now in
    subst (λ f. RunsWith v slots (suc c.args.levels) (both t (view c.args.right.now)) (fails f))
    (sym c.with_enclosing_loc.ensures.failure)
    (failed_left (setting_of v slots) (calls_in v) c.args.levels t (view c.args.right.now) (failure_of c.in-Err.error)
    (subst (λ r. RunsWith v slots c.args.levels t (partial_answer r)) c.in-Err.is h))
