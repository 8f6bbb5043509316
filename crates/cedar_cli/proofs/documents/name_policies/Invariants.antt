use Rattle.cedar_authorizer.specs.responses.Readers.{policies_left}
use Rattle.cedar_authorizer.specs.responses.Responses.{has_id}
use Rattle.cedar_json_writer.specs.Reading.{policy_ids}
use Rattle.cedar_cli.proofs.Naming.{NamedWith}
use Rattle.cedar_cli.proofs.documents.name_policies.Given as goal

-- those that are left to be named, and those that are
abbrev pub invariant-policies : goal.invariant-policies
invariant-policies l =
    NamedWith (policy_ids (policies_left l.policy-iterator)) (has_id l.named)
    (policy_ids (policies_left l.fn.policies)) (has_id l.fn.named)
