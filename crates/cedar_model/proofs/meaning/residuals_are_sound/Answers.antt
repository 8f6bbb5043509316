use Rattle.cedar_model.proofs.Soundness.{allowed_sound}
use Rattle.cedar_model.proofs.meaning.residuals_are_sound.Goals as goal

pub returns : goal.returns
returns g i = λ ans w s c.
    allowed_sound ans _ c.functions_agree w s c.completion c.functions_are_faithful
