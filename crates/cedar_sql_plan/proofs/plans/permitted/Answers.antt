use Rattle.std.proofs.Common.{◌≡◌, ◌∙◌, false, not, ap, subst}
use Rattle.cedar_model.specs.Policies.{forbid}
use Rattle.cedar_plan.specs.Planned.{plan_mode, plan_permits, plan_forbids}
use Rattle.cedar_plan.specs.Told.{errs_count}
use Rattle.cedar_sql.specs.Terms.{sql_term}
use Rattle.cedar_sql_plan.specs.Meaning.{IsCountOf}
use Rattle.cedar_sql_plan.proofs.Counting.{each_permitted, count_as}
use Rattle.cedar_sql_plan.proofs.plans.permitted.Goals as goal

pub returns : goal.returns
returns c =
    let columns = c.args.columns.now in
    let p = c.args.plan.now in
    let may_be = c.args.may_be in
    let errs : c.forbid_errs_count-errs_count.result ≡ errs_count (plan_mode p) forbid =
    c.forbid_errs_count-errs_count.ensures ∙ ap (λ m. errs_count m forbid) c.error_handling.ensures in
    each_permitted columns p may_be c.in_ok-permits.permits c.in_ok-permits.forbids c.unless.result
    (count_as columns false may_be _ (plan_permits p) _ c.in_ok-permits.permits c.in_ok-permits.ensures.first c.permits.ensures c.count_term-permits.ensures)
    (subst (λ e. IsCountOf columns e (not may_be) (plan_forbids p) (sql_term c.in_ok-permits.forbids)) errs
    (count_as columns c.forbid_errs_count-errs_count.result (not may_be) _ (plan_forbids p) _ c.in_ok-permits.forbids c.in_ok-permits.ensures.second c.forbids.ensures c.count_term-forbids.ensures))
    c.unless.ensures
