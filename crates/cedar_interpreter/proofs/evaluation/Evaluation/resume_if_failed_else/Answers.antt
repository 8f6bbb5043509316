use Rattle.cedar_model.specs.Failures.{fails}
use Rattle.cedar_errors.specs.Failures.{failure_of}
use Rattle.cedar_interpreter.proofs.evaluation.Evaluation.resume_if_failed_else.Goals as goal

pub returns : goal.returns
returns g c =
    c.end_if_branches.ensures (fails (failure_of c.args.failed.value.error)) (rw (c.deref.ensures) at c.original_of-kept.ensures)
