use Rattle.cedar_text_parser.proofs.PolicyTermCalls.{policy_known, all_known}
use Rattle.cedar_text_parser.proofs.policy_laws.known_calls_of_policies.Goals as goal

pub returns-clause-policy : goal.returns-clause-policy
returns-clause-policy c = λ k text limit id p is. policy_known k p is.policy

pub returns-clause-policies : goal.returns-clause-policies
returns-clause-policies c = λ k text limit out read. all_known k out read
