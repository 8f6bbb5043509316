use Rattle.cedar_policy_json_laws.proofs.Samples.{template_is_readable, policy_is_readable, set_is_readable, conditions_are_readable}
use Rattle.cedar_policy_json_laws.proofs.laws.sample_policies_are_readable.Goals as goal

pub returns-clause-template : goal.returns-clause-template
returns-clause-template c = template_is_readable

pub returns-clause-policy : goal.returns-clause-policy
returns-clause-policy c = policy_is_readable

pub returns-clause-set : goal.returns-clause-set
returns-clause-set c = set_is_readable

pub returns-clause-conditions : goal.returns-clause-conditions
returns-clause-conditions c = conditions_are_readable
