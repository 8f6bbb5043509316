use Rattle.std.proofs.Common.{◌≡◌, ap, ◌∙◌, subst, Ok}
use Rattle.cedar_model.specs.Terms.{bool_literal, literal}
use Rattle.cedar_model.specs.Failures.{answers}
use Rattle.cedar_frames.specs.declared.machine.Transition.TheVariants.{Done}
use Rattle.cedar_expressions.specs.View.{view}
use Rattle.cedar_interpreter.specs.declared.frame.Pending.TheVariants as pendings
use Rattle.cedar_interpreter.proofs.DirectLaws.{literal_right}
use Rattle.cedar_interpreter.proofs.evaluation.Evaluation.begin_and_or_right.Goals as goal

pub returns-in-Some : goal.returns-in-Some
returns-in-Some g c =
    let seen : view c.args.right.value ≡ literal (bool_literal c.in-Some.b) =
    subst (λ e. view e ≡ literal (bool_literal c.in-Some.b)) c.deref.ensures c.in-Some.ensures in
    literal_right c.args.self.now c.args.levels c.args.whole (pendings.RightSide c.args.connective) c.args.right (Done (Ok c.bool_at.result)) c.in-Some.b seen
    (λ ok. ap answers c.bool_at.ensures.view ∙ c.set_bool_of.ensures.answer, c.bool_at.ensures.place)
