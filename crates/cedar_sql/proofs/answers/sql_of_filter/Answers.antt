use Rattle.cedar_sql.proofs.Whole.{each_filter_is_sql}
use Rattle.cedar_sql.proofs.answers.sql_of_filter.Goals as goal

pub returns-clause-meaning : goal.returns-clause-meaning
returns-clause-meaning c =
    each_filter_is_sql c.args.columns.now c.args.filter.now c.condition.result.now c.sql_of.result c.condition.ensures c.sql_of.ensures.meaning
