use Rattle.std.proofs.Common.{sym, subst}
use Rattle.cedar_model.specs.Failures.{fails}
use Rattle.cedar_expressions.specs.View.{expr_loc}
use Rattle.cedar_errors.specs.Failures.{failure_of}
use Rattle.cedar_interpreter.specs.Settings.{evaluation_setting, calls_in}
use Rattle.cedar_interpreter.specs.Tasks.{Continues}
use Rattle.cedar_interpreter.proofs.Laws.{other_passes, passed_continues}
use Rattle.cedar_interpreter.proofs.evaluation.Evaluation.resume_failed.Goals as goal

pub returns-in_default : goal.returns-in_default
returns-in_default g c r k =
    passed_continues (evaluation_setting r c.args.self.now) (calls_in c.args.self.now) k (expr_loc c.args.whole.value) c.args.pending (failure_of c.args.failed.value.error) c.pass_failure_on.result
    (other_passes c.args.pending c.in_default.not-Then c.in_default.not-Else c.in_default.not-KeptRightSide) c.pass_failure_on.ensures

pub returns-in-Then : goal.returns-in-Then
returns-in-Then g c r k =
    subst (λ p. Continues (evaluation_setting r c.args.self.now) (calls_in c.args.self.now) k (expr_loc c.args.whole.value) p (fails (failure_of c.args.failed.value.error)) c.resume_if_failed_then.result) (sym c.in-Then.is) (c.resume_if_failed_then.ensures r k)

pub returns-in-Else : goal.returns-in-Else
returns-in-Else g c r k =
    subst (λ p. Continues (evaluation_setting r c.args.self.now) (calls_in c.args.self.now) k (expr_loc c.args.whole.value) p (fails (failure_of c.args.failed.value.error)) c.resume_if_failed_else.result) (sym c.in-Else.is) (c.resume_if_failed_else.ensures r k)

pub returns-in-KeptRightSide : goal.returns-in-KeptRightSide
returns-in-KeptRightSide g c r k =
    let x = fails (failure_of c.args.failed.value.error) in
    subst (λ p. Continues (evaluation_setting r c.args.self.now) (calls_in c.args.self.now) k (expr_loc c.args.whole.value) p x c.end_and_or.result) (sym c.in-KeptRightSide.is) (c.end_and_or.ensures x c.original_of-kept.ensures r k)
