use Rattle.cedar_sql.proofs.Filling.{entities_have_rows}
use Rattle.cedar_sql.proofs.laws.entities_have_rows.Goals as goal

pub returns : goal.returns
returns c = entities_have_rows
