use Rattle.std.proofs.Common.{◌≡◌, true}
use Rattle.cedar_model.specs.Chains.{has_limit}
use Rattle.cedar_authorizer.specs.Running.{errors_of}
use Rattle.cedar_cli_sql.specs.Planned.{IsPrintedOf, IsPlannedFor}
use Rattle.cedar_cli_sql.proofs.Composed.{of_ok, of_err}
use Rattle.cedar_cli_sql.proofs.answers.plan_for.Goals as goal

pub returns-in-Ok-clause-answered : goal.returns-in-Ok-clause-answered
returns-in-Ok-clause-answered c =
    let table = c.args.planning.table.now in
    let is_candidates = c.args.planning.is_candidates in
    let plan = c.in-Ok.plan in
    of_ok (IsPrintedOf table is_candidates plan) (IsPlannedFor table is_candidates c.args.response.now c.args.row.now)
    (λ p h. record {
      plan = plan;
      plan_is = c.in-Ok.ensures.plan;
      plan_row_is = c.in-Ok.ensures.row;
      no_limit = c.in-Ok.ensures.limit;
      printed = h;
    })
    c.print_told-printed.result c.print_told-printed.ensures.printed

pub returns-in-Ok-clause-refused : goal.returns-in-Ok-clause-refused
returns-in-Ok-clause-refused c =
    of_err ⊥ (has_limit (errors_of c.args.response.now) ≡ true) (λ h. absurd h)
    c.print_told-printed.result c.print_told-printed.ensures.memory
