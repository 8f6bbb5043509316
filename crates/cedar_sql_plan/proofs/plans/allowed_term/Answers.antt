use Rattle.cedar_sql_plan.proofs.Counting.{each_allowed, each_shown}
use Rattle.cedar_sql_plan.proofs.plans.allowed_term.Goals as goal

pub returns-clause-allowed : goal.returns-clause-allowed
returns-clause-allowed c = each_allowed c.args.columns.now c.args.plan.now c.permitted_row.result c.permitted_row.ensures

pub returns-clause-shown : goal.returns-clause-shown
returns-clause-shown c = each_shown c.args.columns.now c.args.plan.now c.permitted_row.result c.permitted_row.ensures
