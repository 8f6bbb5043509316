use Rattle.std.proofs.Common.{◌∙◌}
use Rattle.std.specs.Rc.{rc_str_bytes}
use Rattle.cedar_interpreter.proofs.Operands.{tested_alike}
use Rattle.cedar_model.specs.Failures.{answers}
use Rattle.cedar_expressions.specs.View.{expr_loc}
use Rattle.cedar_values.specs.Residuals.{partial_view}
use Rattle.cedar_interpreter.specs.declared.frame.Pending.TheVariants as pendings
use Rattle.cedar_interpreter.specs.Settings.{evaluation_setting, calls_in}
use Rattle.cedar_interpreter.proofs.Laws.{gives_continues}
use Rattle.cedar_interpreter.proofs.evaluation.Evaluation.resume_has.Goals as goal

pub returns : goal.returns
returns g c r k =
    let s = evaluation_setting r c.args.self.now in
    gives_continues s (calls_in c.args.self.now) k (expr_loc c.args.whole.now.value) (pendings.HasAttr c.args.attr.now) (answers (partial_view c.args.container.value)) _ c.answer_result_in.result
    (λ a ok is. is ∙ tested_alike s (rc_str_bytes c.args.attr.now) (partial_view c.args.container.value)) (c.answer_result_in.ensures _ (rw (c.taken_out-part.ensures, c.deref_mut.ensures.value) at c.has_of_part.ensures s))
