use Rattle.std.proofs.Common.{rules, ◌≡◌, subst, IfOk}
use Rattle.cedar_layers.specs.Policies.{PolicyView, policy_view, policy_id_text, annotations_view, policy_of, condition_parts}
use Rattle.cedar_layers.proofs.Slots.{slots_view-empty}
use Rattle.cedar_policy_json_text.specs.Placed as placing
use Rattle.cedar_policy_json_text.proofs.placing.placed_with.Goals as goal

-- part by part
pub returns : goal.returns
returns c =
    let p : PolicyView = policy_view c.args.policy.now in
    let named : policy_id_text c.in_ok-id.id ≡ p.id = search rules in
    let parts = condition_parts c.in_ok-principal.principal c.in_ok-action.action c.in_ok-principal.resource c.in_ok-action.when in
    let whole : policy_of c.effect-effect.result c.in_ok-id.id c.args.annotations parts c.new-env.result
    ≡ placing.placed_with (annotations_view c.args.annotations) p =
    λ i. record {
      effect = c.effect-effect.ensures i;
      id = named i;
      annotations = annotations_view c.args.annotations;
      principal_constraint = c.in_ok-principal.ensures.principal i;
      action_constraint = c.in_ok-action.ensures.action i;
      resource_constraint = c.in_ok-principal.ensures.resource i;
      when_clause = c.in_ok-action.ensures.when i;
      slots = slots_view-empty c.new-env.result c.new-env.ensures.empty i;
    } in
    subst (λ (v : PolicyView). IfOk c.new.result (λ p. policy_view p ≡ v)) whole c.new.ensures.view
