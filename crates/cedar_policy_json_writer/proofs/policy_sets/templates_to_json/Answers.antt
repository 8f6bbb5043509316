use Rattle.std.proofs.Common.{List, map, ap, ◌∙◌}
use Rattle.std.proofs.lemmas.List.{drop_all}
use Rattle.cedar_layers.specs.declared.policies.policy.Policy.{Policy}
use Rattle.cedar_layers.specs.Policies.{policy_view}
use Rattle.cedar_json_writer.specs.Texts.{object_of}
use Rattle.cedar_json_writer.proofs.Trees.{view_object}
use Rattle.cedar_policy_json_writer.specs.PolicySets.{template_member}
use Rattle.cedar_policy_json_writer.proofs.Lists.{no_more}
use Rattle.cedar_policy_json_writer.proofs.policy_sets.templates_to_json.Goals as goal

pub returns : goal.returns
returns c =
    let none = drop_all c.templates.template-index c.args.templates.now c.templates-test.false in
    view_object c.templates.members
    ∙ ap object_of (no_more _ _ _ (ap (λ (ps : List Policy). map template_member (map policy_view ps)) none) c.templates.invariant)
