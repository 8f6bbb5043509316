use Rattle.std.proofs.Common.{List, map, ap, ◌∙◌}
use Rattle.json.specs.Json.{string, array}
use Rattle.json.specs.Value.{items_of}
use Rattle.cedar_authorizer.specs.responses.Rows.{Located}
use Rattle.cedar_authorizer.specs.responses.Readers.{left}
use Rattle.cedar_json_writer.proofs.Trees.{view_array}
use Rattle.cedar_json_writer.specs.Reading.{policy_ids}
use Rattle.cedar_json_writer.proofs.Listed.{no_more}
use Rattle.cedar_json_writer.proofs.Carried.{carried_on, id_added}
use Rattle.cedar_json_writer.proofs.ids.policy_ids_to_json.Goals as goal

pub policies-preserved : goal.policies-preserved
policies-preserved c =
    let (l, is, on) = c.in-Some.ensures.steps in
    id_added c.in-Some.policy l (left c.policies.policy-iterator) (left c.next.new.self) _ _ _ is on c.in_ok-put_next_id.ensures c.policies.invariant

pub returns : goal.returns
returns c =
    view_array c.policies.texts
    ∙ ap array (ap items_of (no_more _ _ _ (ap (λ (ls : List Located). map string (policy_ids (carried_on ls))) c.in-None.ensures.steps.0) c.policies.invariant))
