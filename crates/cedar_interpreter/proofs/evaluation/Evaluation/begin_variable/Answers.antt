use Rattle.std.proofs.Common.{ap, ◌∙◌}
use Rattle.cedar_model.specs.Terms.{variable}
use Rattle.cedar_model.specs.Failures.{answers}
use Rattle.cedar_names.specs.Leaves.{variable_view}
use Rattle.cedar_expressions.specs.View.{expr_loc}
use Rattle.cedar_values.specs.Residuals.{partial_view}
use Rattle.cedar_interpreter.specs.Settings.{evaluation_setting, calls_in}
use Rattle.cedar_interpreter.proofs.Laws.{gives_starts, gives_placed}
use Rattle.cedar_interpreter.proofs.evaluation.Evaluation.begin_variable.Goals as goal

pub returns-in-Ok : goal.returns-in-Ok
returns-in-Ok g c levels = (
  λ r k speaks low. gives_starts (evaluation_setting r c.args.self.now) (calls_in c.args.self.now) k (expr_loc c.args.whole.now.value) (variable (variable_view c.args.var)) (answers (partial_view c.in-Ok.part)) c.answer_part.result
      (λ a ok is. is ∙ ap answers (c.in-Ok.ensures.cases.0 ∙ ap partial_view c.given_for.ensures ∙ speaks (variable_view c.args.var))) c.answer_part.ensures.answer,
  gives_placed (expr_loc c.args.whole.now.value) c.answer_part.result (answers (partial_view c.in-Ok.part)) c.answer_part.ensures.answer,
)
