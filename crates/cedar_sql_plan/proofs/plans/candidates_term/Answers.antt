use Rattle.cedar_sql_plan.proofs.Counting.{each_candidate, each_left_out}
use Rattle.cedar_sql_plan.proofs.plans.candidates_term.Goals as goal

pub returns-clause-candidates : goal.returns-clause-candidates
returns-clause-candidates c = each_candidate c.args.columns.now c.args.plan.now c.permitted_row.result c.permitted_row.ensures

pub returns-clause-left_out : goal.returns-clause-left_out
returns-clause-left_out c = each_left_out c.args.columns.now c.args.plan.now c.permitted_row.result c.permitted_row.ensures
