use Rattle.std.proofs.Common.{sym, ap, ◌∙◌}
use Rattle.std.specs.Rc.{rc_str_bytes}
use Rattle.cedar_model.specs.Terms.{extended_has}
use Rattle.cedar_model.specs.Operators.{path_answer}
use Rattle.cedar_model.specs.Failures.{answers}
use Rattle.cedar_model.specs.Rules.{Runs, on_part}
use Rattle.cedar_names.specs.Leaves.{texts_view}
use Rattle.cedar_expressions.specs.View.{expr_loc}
use Rattle.cedar_values.specs.Residuals.{partial_view}
use Rattle.cedar_operators.specs.StoredResiduals.{on_path_of, path_residual_of}
use Rattle.cedar_interpreter.specs.declared.frame.Pending.TheVariants as pendings
use Rattle.cedar_interpreter.specs.Settings.{evaluation_setting, calls_in}
use Rattle.cedar_interpreter.proofs.ReadLaws.{path_as_stored}
use Rattle.cedar_interpreter.proofs.Laws.{gives_continues, walked_continues}
use Rattle.cedar_interpreter.proofs.evaluation.Evaluation.resume_extended_has.Goals as goal

pub returns-in-Some : goal.returns-in-Some
returns-in-Some g c r k =
    walked_continues (evaluation_setting r c.args.self.now) (calls_in c.args.self.now) k (expr_loc c.args.whole.now.value) c.args.attrs.now
    (partial_view c.args.container.value) (on_path_of c.in-Some.read) c.walk_again.result
    (sym (rw (c.deref.ensures, c.deref-2.ensures) at c.in-Ok.ensures) ∙ ap path_residual_of c.in-Some.is) c.walk_again.ensures

pub returns-in-None : goal.returns-in-None
returns-in-None g c r k =
    let s = evaluation_setting r c.args.self.now in
    let calls = calls_in c.args.self.now in
    let part = partial_view c.args.container.value in
    let key = rc_str_bytes c.args.attrs.now.value.first in
    let keys = texts_view c.args.attrs.now.value.rest.items in
    gives_continues s calls k (expr_loc c.args.whole.now.value) (pendings.ExtHasAttr c.args.attrs.now) (answers part)
    (on_part (λ v. path_answer s.store v key keys) (λ q. extended_has q key keys) (answers part)) c.resume_extended_has_stored.result
    (λ a ok is. path_as_stored (Runs s calls k) s.store s.resolution part key keys a
    (sym (rw (c.deref.ensures, c.deref-2.ensures) at c.in-Ok.ensures) ∙ ap path_residual_of c.in-None.is) is)
    (rw c.deref-in-None.ensures at c.resume_extended_has_stored.ensures)
