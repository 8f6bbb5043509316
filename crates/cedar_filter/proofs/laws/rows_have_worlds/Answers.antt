use Rattle.cedar_filter.proofs.Standing.{rows_have_worlds}
use Rattle.cedar_filter.proofs.laws.rows_have_worlds.Goals as goal

pub returns : goal.returns
returns c = rows_have_worlds
