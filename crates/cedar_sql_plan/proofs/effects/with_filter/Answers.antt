use Rattle.cedar_sql_plan.proofs.Adding.{each_adds_filter, each_adds_nothing}
use Rattle.cedar_sql_plan.proofs.effects.with_filter.Goals as goal

pub returns-in-Ok : goal.returns-in-Ok
returns-in-Ok c =
    each_adds_filter c.args.columns.now c.args.errs_count c.args.filter.now c.args.chain c.in-Ok.term c.joined.result
    c.in-Ok.ensures.whole c.in-Ok.ensures.meaning c.joined.ensures

pub returns-in-Err : goal.returns-in-Err
returns-in-Err c =
    each_adds_nothing c.args.columns.now c.args.errs_count c.args.filter.now c.args.chain c.in-Err.refusal c.unchanged.result
    c.in-Err.ensures.refused c.unchanged.ensures.same c.unchanged.ensures.part
