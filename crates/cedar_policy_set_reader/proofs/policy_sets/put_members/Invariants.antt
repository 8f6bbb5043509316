use Rattle.std.proofs.Common.{◌≡◌, [], drop, map}
use Rattle.json.specs.Value.{members_view}
use Rattle.cedar_functions.specs.Functions.{knowledge}
use Rattle.cedar_layers.specs.Policies.{policy_view}
use Rattle.cedar_policy_json_reader.specs.Expressions.{expression_said}
use Rattle.cedar_policy_set_reader.specs.PolicySets.{members_from}
use Rattle.cedar_policy_set_reader.proofs.policy_sets.put_members.Given as goal

abbrev pub invariant-members : goal.invariant-members
invariant-members l =
    members_from l.is_open (expression_said (knowledge l.functions) l.limit) (map policy_view l.others.items) [] (members_view l.member-items)
    ≡ members_from l.is_open (expression_said (knowledge l.functions) l.limit) (map policy_view l.others.items) (map policy_view l.policies.items)
    (members_view (drop l.member-index l.member-items))
