use Rattle.std.proofs.Common.{subst}
use Rattle.cedar_names.specs.Leaves.{binary_view}
use Rattle.cedar_expressions.specs.View.{expr_loc}
use Rattle.cedar_values.specs.Residuals.{partial_view}
use Rattle.cedar_interpreter.proofs.Operands.{parts_alike}
use Rattle.cedar_interpreter.specs.Settings.{evaluation_setting}
use Rattle.cedar_interpreter.specs.Tasks.{Gives}
use Rattle.cedar_interpreter.proofs.evaluation.Evaluation.apply_binary_parts.Goals as goal

pub returns : goal.returns
returns g c r =
    let s = evaluation_setting r c.args.self.now in
    subst (Gives (expr_loc c.args.whole.now.value) c.answer_result_in.result)
    (parts_alike s (binary_view c.args.op) (partial_view c.args.left.value) (partial_view c.args.right))
    (c.answer_result_in.ensures _ (rw (c.taken_out-left_part.ensures, c.deref_mut.ensures.value) at c.binary_of_parts.ensures s))
