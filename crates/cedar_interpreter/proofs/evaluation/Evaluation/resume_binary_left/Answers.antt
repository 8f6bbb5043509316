use Rattle.std.proofs.Common.{suc, arith, subst}
use Rattle.cedar_model.specs.Failures.{answers, answers_value}
use Rattle.cedar_model.specs.Rules.{Runs}
use Rattle.cedar_expressions.specs.View.{view}
use Rattle.cedar_values.specs.Residuals.{partial_view}
use Rattle.cedar_interpreter.specs.declared.frame.Pending.TheVariants as pendings
use Rattle.cedar_interpreter.specs.Settings.{evaluation_setting, calls_in}
use Rattle.cedar_interpreter.proofs.Laws.{waiting_continues}
use Rattle.cedar_interpreter.proofs.ContinuationLaws.{continues_in}
use Rattle.cedar_interpreter.proofs.DirectLaws.{direct_continues}
use Rattle.cedar_interpreter.proofs.evaluation.Evaluation.resume_binary_left.Goals as goal

pub returns-in-Some : goal.returns-in-Some
returns-in-Some g c =
    let e = c.args.self.now in
    let v = answers_value c.in-Some.right.what in
    direct_continues e c.args.levels c.args.whole.now (pendings.BinaryLeft c.args.op c.args.right.now) (pendings.BinaryRight c.args.op c.args.left)
    (answers (partial_view c.args.left.value)) v c.apply_binary.result (omega arith)
    (λ r k speaks low a uses. (v, subst (λ d. Runs (evaluation_setting r e) (calls_in e) (suc k) (view d) v) c.deref.ensures (c.in-Some.ensures.direct r (suc k) speaks low), uses))
    c.apply_binary.ensures

pub returns-in-None : goal.returns-in-None
returns-in-None g c =
    let e = c.args.self.now in
    let x = answers (partial_view c.args.left.value) in
    let p = pendings.BinaryLeft c.args.op c.args.right.now in
    continues_in e c.args.levels c.args.whole.now p x c.wait.result
    (λ r k. waiting_continues (evaluation_setting r e) (calls_in e) k c.args.whole.now p (pendings.BinaryRight c.args.op c.args.left) x c.args.right.now c.wait.result
    (omega arith) (λ y a runs uses. (y, runs, uses)) c.wait.ensures)
