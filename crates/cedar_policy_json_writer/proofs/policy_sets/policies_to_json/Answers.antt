use Rattle.std.proofs.Common.{List, map, ap, ◌∙◌}
use Rattle.cedar_layers.specs.declared.policies.policy.Policy.{Policy}
use Rattle.cedar_layers.specs.Policies.{policy_view}
use Rattle.cedar_json_writer.specs.Texts.{object_of}
use Rattle.cedar_json_writer.proofs.Trees.{view_object}
use Rattle.cedar_policy_json_writer.specs.PolicySets.{policy_member}
use Rattle.cedar_policy_json_writer.proofs.Lists.{no_more}
use Rattle.cedar_policy_json_writer.proofs.policy_sets.policies_to_json.Goals as goal

pub returns : goal.returns
returns c =
    view_object c.policies.members
    ∙ ap object_of (no_more _ _ _ (ap (λ (ps : List Policy). map policy_member (map policy_view ps)) c.in-None.ensures.steps.0) c.policies.invariant)
