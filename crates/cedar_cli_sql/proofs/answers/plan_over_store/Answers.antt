use Rattle.cedar_extensions.specs.Extensions.{extensions_view, calls_of}
use Rattle.cedar_cli_sql.specs.Planned.{IsPlannedOf, IsPlannedOver}
use Rattle.cedar_cli_sql.specs.Unplanned.{IsUnplannedOf, IsUnplannedOver, for_response}
use Rattle.cedar_cli_sql.proofs.Composed.{of_ok, of_err}
use Rattle.cedar_cli_sql.proofs.answers.plan_over_store.Goals as goal

pub returns-clause-answered : goal.returns-clause-answered
returns-clause-answered g c =
    let x = c.args.extensions.now in
    let ps = c.args.planning.policies.now in
    let s = c.args.store.now.entities in
    let q = c.args.asked.now in
    let table = c.args.planning.table.now in
    let w = c.args.planning.way in
    let response = c.in_ok-response.response in
    of_ok (IsPlannedOf table c.args.planning.is_candidates response)
    (IsPlannedOver (extensions_view x) (calls_of x) ps s q table w c.args.planning.is_candidates)
    (λ p h. record { response = response; response_is = c.in_ok-response.ensures.first; planned = h })
    c.plan_response-printed.result c.plan_response-printed.ensures.answered

pub returns-clause-refused : goal.returns-clause-refused
returns-clause-refused g c =
    let x = c.args.extensions.now in
    let ps = c.args.planning.policies.now in
    let s = c.args.store.now.entities in
    let q = c.args.asked.now in
    let table = c.args.planning.table.now in
    let w = c.args.planning.way in
    let response = c.in_ok-response.response in
    of_err (IsUnplannedOf table response) (IsUnplannedOver (extensions_view x) (calls_of x) ps s q table w)
    (λ h. for_response (record {
      response = response;
      response_is = c.in_ok-response.ensures.first;
      unplanned = h;
    }))
    c.plan_response-printed.result c.plan_response-printed.ensures.refused
