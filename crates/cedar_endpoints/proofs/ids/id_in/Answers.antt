use Rattle.json.specs.Value.{value_view}
use Rattle.cedar_endpoints.proofs.Identified.{as_id_said}
use Rattle.cedar_endpoints.proofs.ids.id_in.Goals as goal

pub returns-in-Ok : goal.returns-in-Ok
returns-in-Ok c =
    as_id_said c.args.text.now c.given_id-id.result (value_view c.in-Ok.value) c.in-Ok.ensures.read c.given_id-id.ensures
