use Rattle.std.proofs.Common.{ap, sym, ◌∙◌}
use Rattle.cedar_model.specs.Failures.{Failure, fails}
use Rattle.cedar_operators.specs.Parts.{answered}
use Rattle.cedar_operators.proofs.Fields.{projects_field, keeps_field, lacks_field}
use Rattle.cedar_operators.proofs.partial.attributes.attribute_of_residual.Goals as goal

pub returns-then-is_projectable : goal.returns-then-is_projectable
returns-then-is_projectable c =
    λ ok. c.again-projected.ensures ok ∙ projects_field _ _ _ _
    (rw c.as_expr.ensures.view at c.in-Some.ensures) c.in-Some-get.ensures.value
    (rw c.as_expr-in-Some-get.ensures.view at (sym c.is_projectable.ensures ∙ c.if-is_projectable.true))

pub returns-else-is_projectable : goal.returns-else-is_projectable
returns-else-is_projectable c =
    λ ok. ap answered (c.residual_attribute.ensures (λ m. ok (ap answered m)))
    ∙ keeps_field _ _ _ _ (rw c.as_expr.ensures.view at c.in-Some.ensures) c.in-Some-get.ensures.value
    (rw c.as_expr-in-Some-get.ensures.view at (sym c.is_projectable.ensures ∙ c.if-is_projectable.false))

pub returns-in-None-get : goal.returns-in-None-get
returns-in-None-get c =
    let fail = λ (f : Failure). answered (fails f) in
    λ ok. ap fail (c.no_such_key-error.ensures (λ m. ok (ap fail m)))
    ∙ lacks_field _ _ _ (rw c.as_expr.ensures.view at c.in-Some.ensures) c.in-None-get.ensures.value
