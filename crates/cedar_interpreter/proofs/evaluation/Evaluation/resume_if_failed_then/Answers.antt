use Rattle.cedar_model.specs.Failures.{fails}
use Rattle.cedar_errors.specs.Failures.{failure_of}
use Rattle.cedar_interpreter.specs.declared.frame.Pending.TheVariants as pendings
use Rattle.cedar_interpreter.proofs.ContinuationLaws.{or_out_of_memory_at}
use Rattle.cedar_interpreter.proofs.evaluation.Evaluation.resume_if_failed_then.Goals as goal

pub returns : goal.returns
returns g c =
    let x = fails (failure_of c.args.failed.value.error) in
    or_out_of_memory_at c.args.self.now c.args.whole (pendings.Then c.args.first) x c.begin_if_second_branch.result c.or_out_of_memory.result
    (c.begin_if_second_branch.ensures x (rw (c.deref.ensures) at c.original_of-kept.ensures)) c.or_out_of_memory.ensures
