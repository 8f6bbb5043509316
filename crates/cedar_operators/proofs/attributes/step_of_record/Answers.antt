use Rattle.std.proofs.Common.{ap, refl, ◌∙◌}
use Rattle.cedar_model.specs.Failures.{answers}
use Rattle.cedar_model.specs.Operators.{stops}
use Rattle.cedar_operators.proofs.Stored.{step_at_key, step_at_no_key}
use Rattle.cedar_operators.proofs.attributes.step_of_record.Goals as goal

pub returns-in-Some : goal.returns-in-Some
returns-in-Some c = λ ok. step_at_key _ _ _ _ c.in-Some.ensures.value refl

pub returns-in-None : goal.returns-in-None
returns-in-None c =
    λ ok. ap (λ p. stops (answers p)) c.bool_part.ensures ∙ step_at_no_key _ _ _ c.in-None.ensures.value refl
