use Rattle.std.proofs.Common.{subst}
use Rattle.std.specs.Rc.{rc_str_bytes}
use Rattle.cedar_model.specs.Terms.{has_attribute}
use Rattle.cedar_model.specs.Failures.{answers}
use Rattle.cedar_model.specs.Rules.{Runs}
use Rattle.cedar_expressions.specs.View.{view}
use Rattle.cedar_values.specs.Residuals.{partial_view}
use Rattle.cedar_interpreter.specs.declared.frame.Pending.TheVariants as pendings
use Rattle.cedar_interpreter.specs.Settings.{evaluation_setting, calls_in}
use Rattle.cedar_interpreter.proofs.ContinuationLaws.{starts_in, continues_in, value_leads_in}
use Rattle.cedar_interpreter.proofs.DirectLaws.{direct_starts}
use Rattle.cedar_interpreter.proofs.evaluation.Evaluation.begin_has.Goals as goal

pub returns-in-Some : goal.returns-in-Some
returns-in-Some g c =
    let e = c.args.self.now in
    let p = pendings.HasAttr c.args.attr.now in
    let t = has_attribute (view c.args.expr.now.value) (rc_str_bytes c.args.attr.now) in
    let v = partial_view c.in-Some.direct.value in
    direct_starts e c.args.levels c.args.whole.now p t (view c.args.expr.now.value) v c.resume_has.result
    (λ r k x a runs uses. (x, runs, uses))
    (λ r k speaks low. subst (λ d. Runs (evaluation_setting r e) (calls_in e) k (view d) (answers v)) c.deref.ensures (c.in-Some.ensures r k speaks low))
    (value_leads_in e c.args.levels c.args.whole.now p v c.resume_has.result (continues_in e c.args.levels c.args.whole.now p (answers v) c.resume_has.result c.resume_has.ensures))

pub returns-in-None : goal.returns-in-None
returns-in-None g c =
    starts_in c.args.self.now c.args.levels c.args.whole.now (has_attribute (view c.args.expr.now.value) (rc_str_bytes c.args.attr.now)) c.wait_for_has.result c.wait_for_has.ensures
