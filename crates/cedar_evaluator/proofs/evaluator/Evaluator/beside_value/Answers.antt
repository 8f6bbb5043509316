use Rattle.std.proofs.Common.{sym, ap, ◌∙◌, Some}
use Rattle.cedar_model.specs.Failures.{answers, out_of_memory}
use Rattle.cedar_model.proofs.Injections.{answers_is_not_fails}
use Rattle.cedar_expressions.specs.View.{view}
use Rattle.cedar_errors.specs.Answers.{partial_answer}
use Rattle.cedar_errors.specs.Failures.{failure_of}
use Rattle.cedar_layers.specs.Policies.{slots_view}
use Rattle.cedar_evaluator.specs.Evaluations.{setting_of, calls_in}
use Rattle.cedar_evaluator.proofs.Joined.{true_left, false_left, no_bool_left}
use Rattle.cedar_evaluator.proofs.evaluator.Evaluator.beside_value.Goals as goal

pub returns-in-Some-true-clause-answer : goal.returns-in-Some-true-clause-answer
returns-in-Some-true-clause-answer g c t h =
    true_left (setting_of c.args.self.now (slots_view c.args.slots.now)) (calls_in c.args.self.now) c.args.levels t (view c.args.right.now) c.args.left.now.what (h (answers_is_not_fails _ out_of_memory))
    (partial_answer c.part.result) (partial_answer c.joined_to_true.result)
    (sym c.bool_in.ensures ∙ (c.in-Some-true.is ∙ ap Some c.in-Some-true.field-0-test)) c.part.ensures c.joined_to_true.ensures.answer

pub returns-in-Some-false-clause-answer : goal.returns-in-Some-false-clause-answer
returns-in-Some-false-clause-answer g c t h =
    false_left (setting_of c.args.self.now (slots_view c.args.slots.now)) (calls_in c.args.self.now) c.args.levels t (view c.args.right.now) c.args.left.now.what (h (answers_is_not_fails _ out_of_memory))
    (partial_answer c.answer_at.result)
    (sym c.bool_in.ensures ∙ (c.in-Some-false.is ∙ ap Some c.in-Some-false.field-0-test)) (c.answer_at.ensures.answer ∙ ap answers c.bool_part.ensures)

pub returns-in-None-clause-answer : goal.returns-in-None-clause-answer
returns-in-None-clause-answer g c t h =
    no_bool_left (setting_of c.args.self.now (slots_view c.args.slots.now)) (calls_in c.args.self.now) c.args.levels t (view c.args.right.now) c.args.left.now.what (h (answers_is_not_fails _ out_of_memory))
    (failure_of c.with_enclosing_loc.result) (sym c.bool_in.ensures ∙ c.in-None.is)
    (λ ok. c.with_enclosing_loc.ensures.failure ∙
    c.type_error.ensures (λ w. ok (c.with_enclosing_loc.ensures.failure ∙ w)))
