use Rattle.cedar_model.specs.Failures.{answers}
use Rattle.cedar_values.specs.Residuals.{partial_view}
use Rattle.cedar_interpreter.specs.declared.frame.Pending.TheVariants as pendings
use Rattle.cedar_interpreter.proofs.ContinuationLaws.{or_out_of_memory_at}
use Rattle.cedar_interpreter.proofs.evaluation.Evaluation.resume_if.Goals as goal

pub returns-in-None : goal.returns-in-None
returns-in-None g c =
    or_out_of_memory_at c.args.self.now c.args.whole (pendings.Guard c.args.then_expr c.args.else_expr)
    (answers (partial_view c.args.guard.value)) c.resume_if_no_bool.result c.or_out_of_memory.result
    c.resume_if_no_bool.ensures c.or_out_of_memory.ensures
