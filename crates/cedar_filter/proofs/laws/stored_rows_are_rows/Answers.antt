use Rattle.cedar_filter.proofs.Standing.{stored_rows_are_rows}
use Rattle.cedar_filter.proofs.laws.stored_rows_are_rows.Goals as goal

pub returns : goal.returns
returns c = stored_rows_are_rows
