use Rattle.std.proofs.Common.{◌++◌, map, ap, ◌∙◌}
use Rattle.json.specs.Json.{string, array}
use Rattle.json.specs.Value.{items_of}
use Rattle.cedar_layers.specs.Policies.{policy_view}
use Rattle.cedar_layers.specs.PolicySets.{policies_left}
use Rattle.cedar_authorizer.specs.responses.Responses.{has_id}
use Rattle.cedar_json_writer.specs.Trees.{json_view}
use Rattle.cedar_json_writer.proofs.Listed.{no_more}
use Rattle.cedar_json_writer.proofs.Trees.{view_array}
use Rattle.cedar_cli.specs.Named.{id_where, ids_where}
use Rattle.cedar_cli.proofs.Naming.{goes_on, strings_split}
use Rattle.cedar_cli.proofs.documents.reasons_as_json.Goals as goal

pub policies-preserved : goal.policies-preserved
policies-preserved c =
    let is = has_id c.args.reasons.now in
    let p = policy_view c.in-Some.policy.now in
    let rest = map policy_view (policies_left c.next.new.self) in
    goes_on (map json_view c.policies.ids.items) _ _ (map string (id_where is p)) (map string (ids_where is rest)) _
    c.in_ok-put_reason.ensures
    (ap (λ ps. map string (ids_where is (map policy_view ps))) c.in-Some.ensures.steps
    ∙ strings_split (id_where is p) (ids_where is rest))
    c.policies.invariant

pub returns : goal.returns
returns c =
    let is = has_id c.args.reasons.now in
    view_array c.policies.ids
    ∙ ap array (ap items_of (no_more _ _ _
    (ap (λ ps. map string (ids_where is (map policy_view ps))) c.in-None.ensures.steps.0) c.policies.invariant))
