use Rattle.cedar_requests.proofs.Writing.{nested}
use Rattle.cedar_requests.proofs.context.texts.show_part.Goals as goal

pub returns : goal.returns
returns g c = λ plain ok. nested _ _ _ _ c.fmt.result c.fmt.ensures plain ok
