use Rattle.std.proofs.Common.{rules, ◌≡◌, ◌∙◌}
use Rattle.cedar_layers.specs.Policies.{policy_view, policy_id_text, linked}
use Rattle.cedar_template_links.proofs.linking.linked_policy.Goals as goal

pub returns : goal.returns
returns c =
    let named : policy_id_text c.in_ok-id.id ≡ policy_id_text c.args.id.now = search rules in
    c.in_ok-policy.ensures.view ∙ (λ i. linked (policy_view c.args.template.now) (named i) (c.in_ok-env.ensures i))
