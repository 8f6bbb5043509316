use Rattle.std.proofs.Common.{sym, subst}
use Rattle.cedar_model.specs.Failures.{answers}
use Rattle.cedar_expressions.specs.View.{expr_loc}
use Rattle.cedar_values.specs.Residuals.{partial_view}
use Rattle.cedar_interpreter.specs.declared.frame.Pending.TheVariants as pendings
use Rattle.cedar_interpreter.proofs.Laws.{gives_continues}
use Rattle.cedar_interpreter.specs.Settings.{evaluation_setting, calls_in}
use Rattle.cedar_interpreter.specs.Continuations.{ContinuesIn}
use Rattle.cedar_interpreter.proofs.ContinuationLaws.{continues_in}
use Rattle.cedar_interpreter.proofs.evaluation.Evaluation.resume_pending.Goals as goal

pub returns-in-Passed : goal.returns-in-Passed
returns-in-Passed g c =
    let x = answers (partial_view c.args.answer.value) in
    subst (λ p. ContinuesIn c.args.self.now c.args.levels c.args.whole p x c.put_at.result) (sym c.in-Passed.is)
    (continues_in c.args.self.now c.args.levels c.args.whole pendings.Passed x c.put_at.result
    (λ r k. gives_continues (evaluation_setting r c.args.self.now) (calls_in c.args.self.now) k (expr_loc c.args.whole.value) pendings.Passed x x c.put_at.result (λ a ok is. is) c.put_at.ensures.answer))

pub returns-in-Guard : goal.returns-in-Guard
returns-in-Guard g c =
    subst (λ p. ContinuesIn c.args.self.now c.args.levels c.args.whole p (answers (partial_view c.args.answer.value)) c.resume_if.result) (sym c.in-Guard.is)
    (continues_in c.args.self.now c.args.levels c.args.whole (pendings.Guard c.in-Guard.then_expr c.in-Guard.else_expr) (answers (partial_view c.args.answer.value)) c.resume_if.result c.resume_if.ensures)

pub returns-in-Then : goal.returns-in-Then
returns-in-Then g c =
    subst (λ p. ContinuesIn c.args.self.now c.args.levels c.args.whole p (answers (partial_view c.args.answer.value)) c.resume_if_then.result) (sym c.in-Then.is)
    (continues_in c.args.self.now c.args.levels c.args.whole (pendings.Then c.in-Then.first) (answers (partial_view c.args.answer.value)) c.resume_if_then.result c.resume_if_then.ensures)

pub returns-in-Else : goal.returns-in-Else
returns-in-Else g c =
    subst (λ p. ContinuesIn c.args.self.now c.args.levels c.args.whole p (answers (partial_view c.args.answer.value)) c.resume_if_else.result) (sym c.in-Else.is)
    (continues_in c.args.self.now c.args.levels c.args.whole (pendings.Else c.in-Else.second) (answers (partial_view c.args.answer.value)) c.resume_if_else.result c.resume_if_else.ensures)

pub returns-in-LeftSide : goal.returns-in-LeftSide
returns-in-LeftSide g c =
    subst (λ p. ContinuesIn c.args.self.now c.args.levels c.args.whole p (answers (partial_view c.args.answer.value)) c.resume_and_or_left.result) (sym c.in-LeftSide.is)
    c.resume_and_or_left.ensures

pub returns-in-RightSide : goal.returns-in-RightSide
returns-in-RightSide g c =
    subst (λ p. ContinuesIn c.args.self.now c.args.levels c.args.whole p (answers (partial_view c.args.answer.value)) c.resume_and_or_right.result) (sym c.in-RightSide.is)
    (continues_in c.args.self.now c.args.levels c.args.whole (pendings.RightSide c.in-RightSide.connective) (answers (partial_view c.args.answer.value)) c.resume_and_or_right.result c.resume_and_or_right.ensures)

pub returns-in-KeptRightSide : goal.returns-in-KeptRightSide
returns-in-KeptRightSide g c =
    let p = c.in-KeptRightSide in
    subst (λ p. ContinuesIn c.args.self.now c.args.levels c.args.whole p (answers (partial_view c.args.answer.value)) c.resume_and_or_kept.result) (sym p.is)
    (continues_in c.args.self.now c.args.levels c.args.whole (pendings.KeptRightSide p.connective p.left p.right) (answers (partial_view c.args.answer.value)) c.resume_and_or_kept.result c.resume_and_or_kept.ensures)

pub returns-in-Unary : goal.returns-in-Unary
returns-in-Unary g c =
    subst (λ p. ContinuesIn c.args.self.now c.args.levels c.args.whole p (answers (partial_view c.args.answer.value)) c.resume_unary.result) (sym c.in-Unary.is)
    (continues_in c.args.self.now c.args.levels c.args.whole (pendings.Unary c.in-Unary.op) (answers (partial_view c.args.answer.value)) c.resume_unary.result c.resume_unary.ensures)

pub returns-in-BinaryLeft : goal.returns-in-BinaryLeft
returns-in-BinaryLeft g c =
    subst (λ p. ContinuesIn c.args.self.now c.args.levels c.args.whole p (answers (partial_view c.args.answer.value)) c.resume_binary_left.result) (sym c.in-BinaryLeft.is)
    c.resume_binary_left.ensures

pub returns-in-BinaryRight : goal.returns-in-BinaryRight
returns-in-BinaryRight g c =
    subst (λ p. ContinuesIn c.args.self.now c.args.levels c.args.whole p (answers (partial_view c.args.answer.value)) c.resume_binary_right.result) (sym c.in-BinaryRight.is)
    (continues_in c.args.self.now c.args.levels c.args.whole (pendings.BinaryRight c.in-BinaryRight.op c.in-BinaryRight.left) (answers (partial_view c.args.answer.value)) c.resume_binary_right.result c.resume_binary_right.ensures)

pub returns-in-GetAttr : goal.returns-in-GetAttr
returns-in-GetAttr g c =
    subst (λ p. ContinuesIn c.args.self.now c.args.levels c.args.whole p (answers (partial_view c.args.answer.value)) c.resume_attribute.result) (sym c.in-GetAttr.is)
    (continues_in c.args.self.now c.args.levels c.args.whole (pendings.GetAttr c.in-GetAttr.attr) (answers (partial_view c.args.answer.value)) c.resume_attribute.result c.resume_attribute.ensures)

pub returns-in-HasAttr : goal.returns-in-HasAttr
returns-in-HasAttr g c =
    subst (λ p. ContinuesIn c.args.self.now c.args.levels c.args.whole p (answers (partial_view c.args.answer.value)) c.resume_has.result) (sym c.in-HasAttr.is)
    (continues_in c.args.self.now c.args.levels c.args.whole (pendings.HasAttr c.in-HasAttr.attr) (answers (partial_view c.args.answer.value)) c.resume_has.result c.resume_has.ensures)

pub returns-in-ExtHasAttr : goal.returns-in-ExtHasAttr
returns-in-ExtHasAttr g c =
    subst (λ p. ContinuesIn c.args.self.now c.args.levels c.args.whole p (answers (partial_view c.args.answer.value)) c.resume_extended_has.result) (sym c.in-ExtHasAttr.is)
    (continues_in c.args.self.now c.args.levels c.args.whole (pendings.ExtHasAttr c.in-ExtHasAttr.attrs) (answers (partial_view c.args.answer.value)) c.resume_extended_has.result c.resume_extended_has.ensures)

pub returns-in-Like : goal.returns-in-Like
returns-in-Like g c =
    subst (λ p. ContinuesIn c.args.self.now c.args.levels c.args.whole p (answers (partial_view c.args.answer.value)) c.resume_like.result) (sym c.in-Like.is)
    (continues_in c.args.self.now c.args.levels c.args.whole (pendings.Like c.in-Like.pattern) (answers (partial_view c.args.answer.value)) c.resume_like.result c.resume_like.ensures)

pub returns-in-Is : goal.returns-in-Is
returns-in-Is g c =
    subst (λ p. ContinuesIn c.args.self.now c.args.levels c.args.whole p (answers (partial_view c.args.answer.value)) c.resume_is.result) (sym c.in-Is.is)
    (continues_in c.args.self.now c.args.levels c.args.whole (pendings.Is c.in-Is.entity_type) (answers (partial_view c.args.answer.value)) c.resume_is.result c.resume_is.ensures)
