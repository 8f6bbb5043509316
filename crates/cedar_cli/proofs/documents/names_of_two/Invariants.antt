use Rattle.std.proofs.Common.{◌≡◌, ◌++◌, ◌||◌, map}
use Rattle.cedar_layers.specs.Policies.{policy_view}
use Rattle.cedar_layers.specs.PolicySets.{policies_left, policies_view}
use Rattle.cedar_authorizer.specs.responses.Responses.{has_id}
use Rattle.cedar_json_writer.specs.Trees.{members_seen}
use Rattle.cedar_cli.specs.Documents.{names_where}
use Rattle.cedar_cli.proofs.documents.names_of_two.Given as goal

-- those that are written, and those that are left
abbrev pub invariant-policies : goal.invariant-policies
invariant-policies l =
    members_seen l.names.items
    ++ names_where (λ t. has_id l.fn.erred t || has_id l.fn.some t) (map policy_view (policies_left l.policy-iterator))
    ≡ names_where (λ t. has_id l.fn.erred t || has_id l.fn.some t) (policies_view l.fn.policies)
