use Rattle.std.proofs.Common.{◌∙◌}
use Rattle.cedar_operators.proofs.Fields.{is_field}
use Rattle.cedar_operators.proofs.partial.attributes.has_field.Goals as goal

pub returns : goal.returns
returns c = c.is_some.ensures ∙ is_field _ _ _ c.get.ensures.value
