use Rattle.std.proofs.Common.{refl, arith, subst}
use Rattle.std.specs.Rc.{rc_str_bytes}
use Rattle.cedar_model.specs.Failures.{answers}
use Rattle.cedar_model.specs.Rules.{Runs}
use Rattle.cedar_expressions.specs.View.{view, expr_loc}
use Rattle.cedar_values.specs.Residuals.{partial_view}
use Rattle.cedar_errors.specs.Answers.{partial_answer}
use Rattle.cedar_operators.specs.Operands.{over}
use Rattle.cedar_operators.specs.Parts.{projection, ProjectsTo}
use Rattle.cedar_interpreter.specs.declared.frame.Pending.TheVariants as pendings
use Rattle.cedar_interpreter.specs.Settings.{evaluation_setting, calls_in}
use Rattle.cedar_interpreter.specs.Stored.{remapped}
use Rattle.cedar_interpreter.proofs.StoredLaws.{stored_uses, part_uses}
use Rattle.cedar_interpreter.proofs.Laws.{gives_continues, passed_again}
use Rattle.cedar_interpreter.proofs.evaluation.Evaluation.resume_attribute_stored.Goals as goal

pub returns-in-Answer : goal.returns-in-Answer
returns-in-Answer g c r k =
    let s = evaluation_setting r c.args.self.now in
    let calls = calls_in c.args.self.now in
    let part = partial_view c.args.container.value in
    let key = rc_str_bytes c.args.attr.now in
    gives_continues s calls k (expr_loc c.args.whole.now.value) (pendings.GetAttr c.args.attr.now) (answers part) (remapped s.map (partial_answer c.in-Answer.answer)) c.stored_in.result
    (λ a ok is. stored_uses (Runs s calls k) s part key c.in-Answer.answer a ok is (subst (λ p. ProjectsTo p (projection (over s s.store) part key)) c.in-Answer.is (rw (c.taken_out-part.ensures, c.deref_mut.ensures.value) at c.attribute_of_part.ensures s)) c.requires)
    (c.stored_in.ensures (partial_answer c.in-Answer.answer) (λ w. refl))

pub returns-in-Attribute : goal.returns-in-Attribute
returns-in-Attribute g c r k =
    let s = evaluation_setting r c.args.self.now in
    let calls = calls_in c.args.self.now in
    let part = partial_view c.args.container.value in
    let key = rc_str_bytes c.args.attr.now in
    passed_again s calls k (expr_loc c.args.whole.now.value) (pendings.GetAttr c.args.attr.now) (answers part) (view c.in-Attribute.part) c.evaluate_projected.result (omega arith)
    (λ y a runs uses. part_uses (Runs s calls k) s part key c.in-Attribute.part (subst (λ p. ProjectsTo p (projection (over s s.store) part key)) c.in-Attribute.is (rw (c.taken_out-part.ensures, c.deref_mut.ensures.value) at c.attribute_of_part.ensures s)) y a runs uses c.requires)
    c.evaluate_projected.ensures
