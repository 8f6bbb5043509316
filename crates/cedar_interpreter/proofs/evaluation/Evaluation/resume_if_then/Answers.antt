use Rattle.cedar_model.specs.Failures.{answers}
use Rattle.cedar_expressions.specs.View.{view}
use Rattle.cedar_values.specs.Residuals.{partial_view}
use Rattle.cedar_interpreter.specs.declared.frame.Pending.TheVariants as pendings
use Rattle.cedar_interpreter.proofs.ContinuationLaws.{or_out_of_memory_at}
use Rattle.cedar_interpreter.proofs.evaluation.Evaluation.resume_if_then.Goals as goal

pub returns : goal.returns
returns g c =
    let x = answers (partial_view c.args.answer.value) in
    or_out_of_memory_at c.args.self.now c.args.whole (pendings.Then c.args.first) x c.begin_if_second_branch.result c.or_out_of_memory.result
    (c.begin_if_second_branch.ensures x (c.kept_part-kept.ensures (view c.args.first.value.then_expr.value))) c.or_out_of_memory.ensures
