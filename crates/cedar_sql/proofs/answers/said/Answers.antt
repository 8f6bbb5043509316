use Rattle.cedar_sql.proofs.Whole.{each_is_sql}
use Rattle.cedar_sql.proofs.answers.said.Goals as goal

pub returns : goal.returns
returns c = each_is_sql c.args.columns.now c.args.condition.now c.made.result c.requires c.made.ensures
