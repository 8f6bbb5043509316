use Rattle.std.proofs.Common.{List, ap}
use Rattle.cedar_authorizer.specs.responses.Readers.{left, policies_left}
use Rattle.cedar_authorizer.specs.responses.Responses.{has_id}
use Rattle.cedar_authorizer.specs.responses.Rows.{Located}
use Rattle.cedar_json_writer.specs.Reading.{policy_ids}
use Rattle.cedar_json_writer.proofs.Carried.{carried_on}
use Rattle.cedar_cli.proofs.Naming.{policy_named, all_named}
use Rattle.cedar_cli.proofs.documents.name_policies.Goals as goal

pub policies-preserved : goal.policies-preserved
policies-preserved c =
    let (l, is, on) = c.in-Some.ensures.steps in
    policy_named c.in-Some.policy l (left c.policies.policy-iterator) (left c.next.new.self)
    (policy_ids (policies_left c.args.policies)) (has_id c.policies.named) (has_id c.name_policy.new.named)
    (has_id c.args.named.now) is on c.in_ok-name_policy.ensures c.policies.invariant

pub returns : goal.returns
returns c =
    all_named (policy_ids (policies_left c.policies.policy-iterator)) (policy_ids (policies_left c.args.policies))
    (has_id c.policies.named) (has_id c.args.named.now)
    (ap (λ (ls : List Located). policy_ids (carried_on ls)) c.in-None.ensures.steps.0) c.policies.invariant
