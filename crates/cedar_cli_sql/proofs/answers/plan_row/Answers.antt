use Rattle.std.proofs.Common.{sym, ◌∙◌}
use Rattle.cedar_cli_sql.specs.Planned.{IsPlannedFor, IsPlannedOf}
use Rattle.cedar_cli_sql.specs.Unplanned.{IsUnplannedOf, for_type}
use Rattle.cedar_cli_sql.proofs.Composed.{of_ok, told}
use Rattle.cedar_cli_sql.proofs.answers.plan_row.Goals as goal

pub returns-then-fits-clause-answered : goal.returns-then-fits-clause-answered
returns-then-fits-clause-answered c =
    let table = c.args.planning.table.now in
    let is_candidates = c.args.planning.is_candidates in
    let response = c.args.response.now in
    let row = c.args.row.now in
    of_ok (IsPlannedFor table is_candidates response row) (IsPlannedOf table is_candidates response)
    (λ p h. record { row = row; row_is = c.requires; fits = sym c.fits.ensures ∙ c.if-fits.true; planned = h })
    c.plan_for.result c.plan_for.ensures.answered

pub returns-else-fits-clause-refused : goal.returns-else-fits-clause-refused
returns-else-fits-clause-refused c =
    told (IsUnplannedOf c.args.planning.table.now c.args.response.now)
    (for_type record { row = c.args.row.now; row_is = c.requires; unfit = sym c.fits.ensures ∙ c.if-fits.false }) c.no_fit.result
