use Rattle.cedar_filter.proofs.Found.{equals_turned}
use Rattle.cedar_filter.proofs.rows.row_compared_with.Goals as goal

pub returns-in-Equal : goal.returns-in-Equal
returns-in-Equal c = equals_turned _ _ _ _ _ c.in-Equal.is c.truth_of.ensures c.is_row.ensures
