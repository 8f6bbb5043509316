use Rattle.cedar_model.specs.Failures.{answers}
use Rattle.cedar_expressions.specs.View.{view}
use Rattle.cedar_values.specs.Residuals.{partial_view}
use Rattle.cedar_interpreter.proofs.evaluation.Evaluation.resume_and_or_kept.Goals as goal

pub returns : goal.returns
returns g c =
    c.end_and_or.ensures (answers (partial_view c.args.answer.value)) (c.kept_part-kept.ensures (view c.args.right.value))
