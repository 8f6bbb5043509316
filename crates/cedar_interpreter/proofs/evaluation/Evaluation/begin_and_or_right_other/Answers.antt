use Rattle.std.proofs.Common.{◌∙◌, ap, subst, suc, Ok}
use Rattle.cedar_model.specs.Failures.{answers, answers_bool}
use Rattle.cedar_model.specs.Rules.{Runs}
use Rattle.cedar_frames.specs.declared.machine.Transition.TheVariants.{Done}
use Rattle.cedar_expressions.specs.View.{view}
use Rattle.cedar_interpreter.specs.declared.frame.Pending.TheVariants as pendings
use Rattle.cedar_interpreter.specs.Settings.{evaluation_setting, calls_in}
use Rattle.cedar_interpreter.proofs.DirectLaws.{right_given, awaited}
use Rattle.cedar_interpreter.proofs.evaluation.Evaluation.begin_and_or_right_other.Goals as goal

pub returns-in-Some : goal.returns-in-Some
returns-in-Some g c =
    let e = c.args.self.now in
    right_given e c.args.levels c.args.whole (pendings.RightSide c.args.connective) c.args.right (Done (Ok c.bool_at.result)) c.in-Some.b
    (λ r k speaks low. subst (λ d. Runs (evaluation_setting r e) (calls_in e) (suc k) (view d) (answers_bool c.in-Some.b)) c.deref.ensures (c.in-Some.ensures r (suc k) speaks low))
    (λ ok. ap answers c.bool_at.ensures.view ∙ ap answers c.with_bool.ensures.view, c.bool_at.ensures.place)

pub returns-in-None : goal.returns-in-None
returns-in-None g c =
    awaited c.args.self.now c.args.levels c.args.whole (pendings.RightSide c.args.connective) c.args.right c.wait_for_right.result c.wait_for_right.ensures
