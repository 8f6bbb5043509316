use Rattle.std.proofs.Common.{sym, ap, ◌≡◌, ◌∙◌, subst, Some, Ok}
use Rattle.cedar_model.specs.Failures.{answers}
use Rattle.cedar_model.specs.Rules.{Runs}
use Rattle.cedar_frames.specs.declared.machine.Transition.TheVariants.{Done}
use Rattle.cedar_expressions.specs.View.{view}
use Rattle.cedar_values.specs.Residuals.{partial_view}
use Rattle.cedar_operators.specs.Connectives.{deciding, neutral}
use Rattle.cedar_interpreter.specs.declared.frame.Pending.TheVariants as pendings
use Rattle.cedar_interpreter.specs.Booleans.{part_bool}
use Rattle.cedar_interpreter.proofs.BooleanLaws.{decides}
use Rattle.cedar_interpreter.specs.Settings.{evaluation_setting, calls_in}
use Rattle.cedar_interpreter.specs.Tasks.{Uses}
use Rattle.cedar_interpreter.proofs.ContinuationLaws.{continues_in, or_out_of_memory_at}
use Rattle.cedar_interpreter.proofs.DirectLaws.{right_side_read}
use Rattle.cedar_interpreter.proofs.evaluation.Evaluation.resume_and_or_left.Goals as goal

pub returns-then-is_decided_by : goal.returns-then-is_decided_by
returns-then-is_decided_by g c =
    let e = c.args.self.now in
    let x = answers (partial_view c.args.left.value) in
    let p = partial_view c.args.left.value in
    let waited = pendings.LeftSide c.args.connective c.args.right in
    let is : part_bool p ≡ Some (deciding c.args.connective) =
    subst (λ y. part_bool (partial_view y) ≡ Some (deciding c.args.connective)) c.deref.ensures
    (sym c.known_bool.ensures ∙ c.in-Some.is ∙ ap Some (c.is_decided_by.ensures.decided c.if-is_decided_by.true)) in
    continues_in e c.args.levels c.args.whole waited x (Done (Ok c.bool_at.result))
    (λ r k. (
      λ ok. subst (λ q. Uses (evaluation_setting r e) (Runs (evaluation_setting r e) (calls_in e) k) waited x (answers q)) (sym c.bool_at.ensures.view)
          (decides (Runs (evaluation_setting r e) (calls_in e) k) c.args.connective p (view c.args.right.value) is),
      c.bool_at.ensures.place,
    ))

pub returns-else-is_decided_by : goal.returns-else-is_decided_by
returns-else-is_decided_by g c =
    right_side_read c.args.self.now c.args.levels c.args.whole c.args.right c.args.connective (partial_view c.args.left.value) c.begin_and_or_right.result
    (subst (λ x. part_bool (partial_view x) ≡ Some (neutral c.args.connective)) c.deref.ensures
    (sym c.known_bool.ensures ∙ c.in-Some.is ∙ ap Some (c.is_decided_by.ensures.undecided c.if-is_decided_by.false)))
    c.begin_and_or_right.ensures

pub returns-in-None : goal.returns-in-None
returns-in-None g c =
    let e = c.args.self.now in
    let x = answers (partial_view c.args.left.value) in
    let waited = pendings.LeftSide c.args.connective c.args.right in
    continues_in e c.args.levels c.args.whole waited x c.or_out_of_memory.result
    (or_out_of_memory_at e c.args.whole waited x c.resume_and_or_left_no_bool.result c.or_out_of_memory.result
    c.resume_and_or_left_no_bool.ensures c.or_out_of_memory.ensures)
