use Rattle.cedar_extensions.specs.Extensions.{extensions_view, calls_of}
use Rattle.cedar_cli_sql.specs.Planned.{IsPlannedOver, IsPlannedBy}
use Rattle.cedar_cli_sql.specs.Unplanned.{IsUnplannedOver, IsUnplannedBy, for_answer}
use Rattle.cedar_cli_sql.proofs.Composed.{of_ok, of_err}
use Rattle.cedar_cli_sql.proofs.answers.plan_over_given_store.Goals as goal

pub returns-clause-answered : goal.returns-clause-answered
returns-clause-answered g c =
    let x = c.args.extensions.now in
    let ps = c.args.planning.policies.now in
    let s = c.in_ok-store.store.entities in
    let q = c.args.asked.now in
    let table = c.args.planning.table.now in
    let w = c.args.planning.way in
    of_ok (IsPlannedOver (extensions_view x) (calls_of x) ps s q table w c.args.planning.is_candidates)
    (IsPlannedBy (extensions_view x) (calls_of x) ps q table w c.args.planning.is_candidates)
    (λ p h. record { store = s; store_is = c.in_ok-store.ensures.given; planned = h })
    c.plan_over_store-printed.result c.plan_over_store-printed.ensures.answered

pub returns-clause-refused : goal.returns-clause-refused
returns-clause-refused g c =
    let x = c.args.extensions.now in
    let ps = c.args.planning.policies.now in
    let s = c.in_ok-store.store.entities in
    let q = c.args.asked.now in
    let table = c.args.planning.table.now in
    let w = c.args.planning.way in
    of_err (IsUnplannedOver (extensions_view x) (calls_of x) ps s q table w)
    (IsUnplannedBy (extensions_view x) (calls_of x) ps q table w)
    (λ h. for_answer s c.in_ok-store.ensures.given h)
    c.plan_over_store-printed.result c.plan_over_store-printed.ensures.refused
