use Rattle.cedar_layers.specs.Policies.{policy_view}
use Rattle.cedar_policy_json_laws.proofs.Policies.{policy_reads_back, linked_policy_reads_back}
use Rattle.cedar_policy_json_laws.proofs.laws.policies_read_back.Goals as goal

pub returns-clause-itself : goal.returns-clause-itself
returns-clause-itself c = policy_reads_back (policy_view c.args.policy.now)

pub returns-clause-linked : goal.returns-clause-linked
returns-clause-linked c = linked_policy_reads_back (policy_view c.args.policy.now)
