use Rattle.cedar_filter.proofs.Found.{equals_itself}
use Rattle.cedar_filter.proofs.rows.itself_compared.Goals as goal

pub returns-in-Equal : goal.returns-in-Equal
returns-in-Equal c = equals_itself _ _ c.in-Equal.is
