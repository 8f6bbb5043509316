use Rattle.cedar_extensions.specs.Extensions.{extensions_view, calls_of}
use Rattle.cedar_functions.specs.Functions.{these, signatures_of}
use Rattle.cedar_cli_sql.specs.Planned.{IsPlannedWith, IsPlanned}
use Rattle.cedar_cli_sql.specs.Unplanned.{IsUnplannedWith, IsUnplanned, for_plan}
use Rattle.cedar_cli_sql.proofs.Composed.{of_ok, of_err}
use Rattle.cedar_cli_sql.proofs.answers.plan_as_sql.Goals as goal

pub returns-clause-answered : goal.returns-clause-answered
returns-clause-answered g c =
    let x = c.args.extensions.now in
    let k = these (signatures_of x) in
    let text = c.args.policies.text.now in
    let table = c.in_ok-table.table in
    let q = c.args.asked.now in
    of_ok (IsPlannedWith k (extensions_view x) (calls_of x) text q table c.args.way c.args.is_candidates)
    (IsPlanned k (extensions_view x) (calls_of x) text q c.args.columns.text.now c.args.way c.args.is_candidates)
    (λ p h. record { partial = c.in_ok-refuse_whole.ensures.partial; table = table; table_is = c.in_ok-table.ensures.said; planned = h })
    c.plan_with_table-printed.result c.plan_with_table-printed.ensures.answered

pub returns-clause-refused : goal.returns-clause-refused
returns-clause-refused g c =
    let x = c.args.extensions.now in
    let k = these (signatures_of x) in
    let text = c.args.policies.text.now in
    let table = c.in_ok-table.table in
    let q = c.args.asked.now in
    of_err (IsUnplannedWith k (extensions_view x) (calls_of x) text q table c.args.way)
    (IsUnplanned k (extensions_view x) (calls_of x) text q c.args.columns.text.now c.args.way)
    (λ h. for_plan table c.in_ok-table.ensures.said h)
    c.plan_with_table-printed.result c.plan_with_table-printed.ensures.refused
