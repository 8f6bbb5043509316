use Rattle.std.proofs.Common.{◌≡◌, IfOk, subst}
use Rattle.cedar_model.specs.World.{Slots}
use Rattle.cedar_layers.specs.Policies.{policy_view}
use Rattle.cedar_layers.proofs.Slots.{slots_view-empty}
use Rattle.cedar_json_writer.specs.Trees.{json_view}
use Rattle.cedar_policy_json_writer.specs.Policies.{policy_json, with_slots}
use Rattle.cedar_policy_json_writer.proofs.policies.template_to_json.Goals as goal

pub returns : goal.returns
returns c =
    subst (λ (s : Slots). IfOk c.with_slots.result (λ j. json_view j ≡ policy_json (with_slots (policy_view c.args.policy.now) s)))
    (slots_view-empty c.new-slots.result c.new-slots.ensures.empty) c.with_slots.ensures
