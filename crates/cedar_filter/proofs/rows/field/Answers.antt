use Rattle.cedar_filter.proofs.Found.{field_is}
use Rattle.cedar_filter.proofs.rows.field.Goals as goal

pub returns : goal.returns
returns c = field_is _ _ _ c.get.ensures.value
