use Rattle.std.proofs.Common.{◌∙◌, subst}
use Rattle.cedar_model.specs.Failures.{answers}
use Rattle.cedar_expressions.specs.View.{expr_loc}
use Rattle.cedar_values.specs.Residuals.{partial_view}
use Rattle.cedar_interpreter.specs.declared.frame.Pending.TheVariants as pendings
use Rattle.cedar_interpreter.specs.Settings.{evaluation_setting, calls_in}
use Rattle.cedar_interpreter.specs.Tasks.{Continues}
use Rattle.cedar_interpreter.proofs.Laws.{gives_continues}
use Rattle.cedar_interpreter.proofs.evaluation.Evaluation.resume_unary.Goals as goal

pub returns-else-negate_bool : goal.returns-else-negate_bool
returns-else-negate_bool g c r k =
    subst (λ p. Continues (evaluation_setting r c.args.self.now) (calls_in c.args.self.now) k (expr_loc c.args.whole.now.value) (pendings.Unary c.args.op) (answers (partial_view p)) c.resume_unary_other.result)
    (c.negate_bool.ensures.same c.if-negate_bool.false ∙ c.deref_mut.ensures.value) (c.resume_unary_other.ensures r k)

pub returns-then-negate_bool : goal.returns-then-negate_bool
returns-then-negate_bool g c r k =
    gives_continues (evaluation_setting r c.args.self.now) (calls_in c.args.self.now) k (expr_loc c.args.whole.now.value) (pendings.Unary c.args.op) (answers (partial_view c.args.operand.value)) _ c.put_at.result
    (λ a ok is. is ∙ (rw (c.deref_mut.ensures.value) at c.negate_bool.ensures.negated c.if-negate_bool.true)) c.put_at.ensures.answer
