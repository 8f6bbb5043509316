use Rattle.std.proofs.Common.{◌∙◌}
use Rattle.cedar_operators.proofs.Stored.{is_at_key}
use Rattle.cedar_operators.proofs.attributes.has_key.Goals as goal

pub returns : goal.returns
returns c = c.is_some.ensures ∙ is_at_key _ _ _ c.get.ensures.value
