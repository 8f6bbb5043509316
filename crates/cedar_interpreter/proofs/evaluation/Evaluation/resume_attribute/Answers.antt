use Rattle.std.proofs.Common.{sym, subst, arith}
use Rattle.std.specs.Rc.{rc_str_bytes}
use Rattle.cedar_model.specs.Failures.{answers}
use Rattle.cedar_model.specs.Rules.{Runs}
use Rattle.cedar_expressions.specs.View.{expr_loc}
use Rattle.cedar_values.specs.Residuals.{partial_view, residual_term}
use Rattle.cedar_interpreter.specs.declared.frame.Pending.TheVariants as pendings
use Rattle.cedar_interpreter.specs.Settings.{evaluation_setting, calls_in}
use Rattle.cedar_interpreter.proofs.StoredLaws.{part_read}
use Rattle.cedar_interpreter.proofs.Laws.{passed_again}
use Rattle.cedar_interpreter.proofs.evaluation.Evaluation.resume_attribute.Goals as goal

pub returns-in-Some : goal.returns-in-Some
returns-in-Some g c r k =
    let s = evaluation_setting r c.args.self.now in
    let calls = calls_in c.args.self.now in
    let part = partial_view c.args.container.value in
    let key = rc_str_bytes c.args.attr.now in
    let t = residual_term c.in-Some.residual.now in
    passed_again s calls k (expr_loc c.args.whole.now.value) (pendings.GetAttr c.args.attr.now) (answers part) t c.read_again.result (omega arith)
    (λ y a runs is. part_read (Runs s calls k) s part key t a (sym (rw c.deref.ensures at c.in-Some.ensures)) (subst (Runs s calls k t) (sym is) runs))
    c.read_again.ensures
