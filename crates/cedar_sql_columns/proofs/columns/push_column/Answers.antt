use Rattle.std.proofs.Common.{rules}
use Rattle.cedar_sql_columns.specs.Tables.{column_view}
use Rattle.cedar_sql_columns.proofs.Lists.{one_mapped}
use Rattle.cedar_sql_columns.proofs.columns.push_column.Goals as goal

pub returns-in-Ok-clause-said : goal.returns-in-Ok-clause-said
returns-in-Ok-clause-said c =
    one_mapped column_view c.args.columns.now.items c.push.new.self.items c.args.column (search rules)
