use Rattle.std.proofs.Common.{sym, subst, arith}
use Rattle.cedar_model.specs.Failures.{answers}
use Rattle.cedar_model.specs.Rules.{Runs, beside_residual, binary_beside, binary_of_parts}
use Rattle.cedar_names.specs.Leaves.{binary_view}
use Rattle.cedar_expressions.specs.View.{expr_loc}
use Rattle.cedar_values.specs.Residuals.{partial_view, residual_term}
use Rattle.cedar_interpreter.specs.declared.frame.Pending.TheVariants as pendings
use Rattle.cedar_interpreter.specs.Settings.{evaluation_setting, calls_in}
use Rattle.cedar_interpreter.proofs.ReadLaws.{as_stored, as_read}
use Rattle.cedar_interpreter.proofs.Laws.{gives_continues, passed_again}
use Rattle.cedar_interpreter.proofs.evaluation.Evaluation.apply_binary.Goals as goal

pub returns-in-Some : goal.returns-in-Some
returns-in-Some g c r k =
    let s = evaluation_setting r c.args.self.now in
    let calls = calls_in c.args.self.now in
    let op = binary_view c.args.op in
    let left = partial_view c.args.left.value in
    let right = answers (partial_view c.args.right) in
    let t = residual_term c.in-Some.tag.now in
    passed_again s calls k (expr_loc c.args.whole.now.value) (pendings.BinaryRight c.args.op c.args.left) right t c.read_again.result (omega arith)
    (λ y a runs is. as_read (Runs s calls k) s.resolution (beside_residual s.store op left right) t (binary_beside s op left right) a
    (sym (rw c.deref.ensures at c.in-Some.ensures)) (subst (Runs s calls k t) (sym is) runs))
    c.read_again.ensures

pub returns-in-None : goal.returns-in-None
unfolding binary_beside
returns-in-None g c r k =
    let s = evaluation_setting r c.args.self.now in
    let calls = calls_in c.args.self.now in
    let op = binary_view c.args.op in
    let left = partial_view c.args.left.value in
    let right = partial_view c.args.right in
    gives_continues s calls k (expr_loc c.args.whole.now.value) (pendings.BinaryRight c.args.op c.args.left) (answers right)
    (binary_of_parts s op left right) c.apply_binary_stored.result
    (λ a ok is. as_stored (Runs s calls k) s.resolution (beside_residual s.store op left (answers right)) (binary_beside s op left (answers right)) a
    (sym (rw c.deref.ensures at c.in-None.ensures)) is)
    (c.apply_binary_stored.ensures r)
