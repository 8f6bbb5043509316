use Rattle.std.proofs.Common.{List, map, ap, ◌∙◌}
use Rattle.json.specs.Json.{Json, array}
use Rattle.cedar_layers.specs.declared.policies.policy.Effect.TheVariants.{Permit, Forbid}
use Rattle.cedar_layers.specs.Policies.{effect_view}
use Rattle.cedar_authorizer.specs.responses.Rows.{located_view, true_rows, false_rows, residual_rows}
use Rattle.json.specs.Value.{items_of}
use Rattle.cedar_json_writer.specs.Trees.{json_view}
use Rattle.cedar_json_writer.proofs.Trees.{view_array}
use Rattle.cedar_response_json.proofs.Six.{six_put}
use Rattle.cedar_response_json.proofs.policies.policies_to_json.Goals as goal

pub returns : goal.returns
unfolding located_view
returns c =
    let r = c.args.response.now in
    let p = effect_view Permit in
    let f = effect_view Forbid in
    view_array c.put_residuals-2.new.items
    ∙ ap (λ (js : List Json). array (items_of js))
    (six_put (true_rows p r.satisfied_permits.entries) (false_rows p r.false_permits.entries) (residual_rows p r.residual_permits.entries)
    (true_rows f r.satisfied_forbids.entries) (false_rows f r.false_forbids.entries) (residual_rows f r.residual_forbids.entries)
    (map json_view c.new-items.result.items) (map json_view c.put_trues.new.items.items) (map json_view c.put_falses.new.items.items)
    (map json_view c.put_residuals.new.items.items) (map json_view c.put_trues-2.new.items.items) (map json_view c.put_falses-2.new.items.items)
    (map json_view c.put_residuals-2.new.items.items) (ap (map json_view) c.new-items.ensures.items)
    c.in_ok-put_trues.ensures c.in_ok-put_falses.ensures c.in_ok-put_residuals.ensures
    c.in_ok-put_trues-2.ensures c.in_ok-put_falses-2.ensures c.in_ok-put_residuals-2.ensures)
