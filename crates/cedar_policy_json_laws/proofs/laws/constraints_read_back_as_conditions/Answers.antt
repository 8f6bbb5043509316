use Rattle.cedar_layers.specs.Policies.{policy_view}
use Rattle.cedar_policy_json_laws.proofs.Conditions.{any_policy_reads_back}
use Rattle.cedar_policy_json_laws.proofs.Meanings.{conditions_mean_the_same}
use Rattle.cedar_policy_json_laws.proofs.laws.constraints_read_back_as_conditions.Goals as goal

pub returns-clause-conditions : goal.returns-clause-conditions
returns-clause-conditions c = any_policy_reads_back (policy_view c.args.policy.now)

pub returns-clause-meaning : goal.returns-clause-meaning
returns-clause-meaning c = conditions_mean_the_same (policy_view c.args.policy.now)
