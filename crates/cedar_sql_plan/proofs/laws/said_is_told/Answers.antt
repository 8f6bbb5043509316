use Rattle.cedar_sql_plan.proofs.Telling.{said_is_told, said_is_all_that_is_told}
use Rattle.cedar_sql_plan.proofs.laws.said_is_told.Goals as goal

pub returns-clause-decisions : goal.returns-clause-decisions
returns-clause-decisions c = said_is_told c.args.plan.now c.args.columns.now

pub returns-clause-exact : goal.returns-clause-exact
returns-clause-exact c = said_is_all_that_is_told c.args.plan.now c.args.columns.now
