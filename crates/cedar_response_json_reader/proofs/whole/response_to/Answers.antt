use Rattle.std.proofs.Common.{map}
use Rattle.cedar_authorizer.specs.Running.{HoldsRows, KeepsSheet}
use Rattle.cedar_authorizer.specs.responses.Responses.{errors_view}
use Rattle.cedar_response_json_reader.specs.Rows.{held_row}
use Rattle.cedar_response_json_reader.proofs.Holding.{if_ok}
use Rattle.cedar_response_json_reader.proofs.Sheeted.{holds}
use Rattle.cedar_response_json_reader.proofs.whole.response_to.Goals as goal

pub returns-in-Ok-clause-held : goal.returns-in-Ok-clause-held
returns-in-Ok-clause-held c =
    let s = c.in-Ok.sheet in
    let rows = map held_row c.args.reports.0.items in
    if_ok (KeepsSheet s) (HoldsRows rows)
    (λ r k. holds rows (errors_view c.args.reports.1.items) s r c.requires c.in-Ok.ensures k) c.response_of.result
    c.response_of.ensures.kept
