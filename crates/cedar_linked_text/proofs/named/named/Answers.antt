use Rattle.std.proofs.Common.{◌≡◌, ◌∙◌}
use Rattle.cedar_layers.specs.Policies.{policy_view, linked}
use Rattle.cedar_layers.proofs.Slots.{slots_view-empty}
use Rattle.cedar_linked_text.proofs.named.named.Goals as goal

pub returns : goal.returns
returns c =
    c.in_ok-named.ensures.view
    ∙ (λ i. linked (policy_view c.args.policy.now) (c.in_ok-id.ensures i) (slots_view-empty c.new-env.result c.new-env.ensures.empty i))
