use Rattle.cedar_extensions.specs.Extensions.{extensions_view, calls_of}
use Rattle.cedar_functions.specs.Functions.{these, signatures_of}
use Rattle.cedar_cli_sql.specs.Planned.{IsPlannedBy, IsPlannedWith}
use Rattle.cedar_cli_sql.specs.Unplanned.{IsUnplannedBy, IsUnplannedWith, for_question}
use Rattle.cedar_cli_sql.proofs.Composed.{of_ok, of_err}
use Rattle.cedar_cli_sql.proofs.answers.plan_with_table.Goals as goal

pub returns-clause-answered : goal.returns-clause-answered
returns-clause-answered g c =
    let x = c.args.extensions.now in
    let k = these (signatures_of x) in
    let text = c.args.policies.text.now in
    let table = c.args.table.now in
    let parsed = c.in_ok-parsed.parsed in
    let q = c.args.asked.now in
    of_ok (IsPlannedBy (extensions_view x) (calls_of x) parsed.policies q table c.args.way c.args.is_candidates)
    (IsPlannedWith k (extensions_view x) (calls_of x) text q table c.args.way c.args.is_candidates)
    (λ p h. record { parsed = parsed; policies_are = c.in_ok-parsed.ensures.read; planned = h })
    c.plan_parsed-printed.result c.plan_parsed-printed.ensures.answered

pub returns-clause-refused : goal.returns-clause-refused
returns-clause-refused g c =
    let x = c.args.extensions.now in
    let k = these (signatures_of x) in
    let text = c.args.policies.text.now in
    let table = c.args.table.now in
    let parsed = c.in_ok-parsed.parsed in
    let q = c.args.asked.now in
    of_err (IsUnplannedBy (extensions_view x) (calls_of x) parsed.policies q table c.args.way)
    (IsUnplannedWith k (extensions_view x) (calls_of x) text q table c.args.way)
    (λ h. for_question parsed c.in_ok-parsed.ensures.read h)
    c.plan_parsed-printed.result c.plan_parsed-printed.ensures.refused
