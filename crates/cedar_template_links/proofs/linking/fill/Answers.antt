use Rattle.std.proofs.Common.{◌∙◌, Ok, Option, ap, sym}
use Rattle.cedar_model.specs.Terms.{EntityName}
use Rattle.cedar_layers.specs.Policies.{policy_view, policy_id_text}
use Rattle.cedar_policy_json_reader.specs.Paths.{at_key}
use Rattle.cedar_policy_json_reader.specs.Refusals.{Said, under, made_of}
use Rattle.cedar_template_links.specs.Links.{values_key}
use Rattle.cedar_template_links.specs.Linking.{linked_with}
use Rattle.cedar_template_links.proofs.linking.fill.Goals as goal

pub returns-in-Ok-linked_policy-clause-made : goal.returns-in-Ok-linked_policy-clause-made
returns-in-Ok-linked_policy-clause-made c =
    let t = policy_view c.args.template.now in
    let k = policy_id_text c.args.link.now.new_id in
    ap (λ (s : Said (Option EntityName × Option EntityName)). made_of (linked_with t k) (under (at_key (values_key c.args.form)) s)) c.in-Ok.ensures.said
    ∙ ap Ok (sym c.in-Ok-linked_policy.ensures)
