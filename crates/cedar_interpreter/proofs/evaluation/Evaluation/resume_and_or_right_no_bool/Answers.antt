use Rattle.cedar_model.specs.Failures.{answers}
use Rattle.cedar_expressions.specs.View.{expr_loc}
use Rattle.cedar_values.specs.Residuals.{partial_view}
use Rattle.cedar_interpreter.specs.declared.frame.Pending.TheVariants as pendings
use Rattle.cedar_interpreter.specs.Settings.{evaluation_setting, calls_in}
use Rattle.cedar_interpreter.proofs.Laws.{gives_continues}
use Rattle.cedar_interpreter.proofs.evaluation.Evaluation.resume_and_or_right_no_bool.Goals as goal

pub returns : goal.returns
returns g c r k =
    gives_continues (evaluation_setting r c.args.self.now) (calls_in c.args.self.now) k (expr_loc c.args.whole.value) (pendings.RightSide c.args.connective) (answers (partial_view c.args.right.value)) _ c.answer_result_in.result
    (λ a ok is. is) (c.answer_result_in.ensures _ (rw (c.taken_out-part.ensures, c.deref_mut.ensures.value) at c.joined_right.ensures))
