use Rattle.std.proofs.Common.{ap, ◌∙◌}
use Rattle.cedar_model.specs.Terms.{literal}
use Rattle.cedar_model.specs.Failures.{value, answers}
use Rattle.cedar_names.specs.Leaves.{literal_view}
use Rattle.cedar_expressions.specs.View.{expr_loc}
use Rattle.cedar_values.specs.declared.partial_value.PartialValue.TheVariants as partials
use Rattle.cedar_values.specs.Residuals.{partial_view}
use Rattle.cedar_interpreter.specs.Settings.{evaluation_setting, calls_in}
use Rattle.cedar_interpreter.proofs.Laws.{gives_starts}
use Rattle.cedar_interpreter.proofs.evaluation.Evaluation.begin_literal.Goals as goal

pub returns-in-Some : goal.returns-in-Some
returns-in-Some g c r k =
    gives_starts (evaluation_setting r c.args.self.now) (calls_in c.args.self.now) k (expr_loc c.args.whole.now.value) (literal (literal_view c.args.value.now)) (answers (partial_view (partials.Value c.in-Some.value))) c.answer_part.result
    (λ a ok is. is ∙ ap (λ w. answers (value w)) c.in-Some.ensures) c.answer_part.ensures.answer
