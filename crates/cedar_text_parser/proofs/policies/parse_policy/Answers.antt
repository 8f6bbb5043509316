use Rattle.cedar_functions.specs.Functions.{knowledge}
use Rattle.cedar_text_parser.specs.PolicyReading.{IsTextRefused, in_reading}
use Rattle.cedar_text_parser.proofs.Places.{passed_up}
use Rattle.cedar_text_parser.proofs.PolicyHeights.{policy_low}
use Rattle.cedar_text_parser.proofs.policies.parse_policy.Goals as goal

pub returns-in_err-tokens-clause-calls : goal.returns-in_err-tokens-clause-calls
returns-in_err-tokens-clause-calls c =
    passed_up c.from_residual.result _ (IsTextRefused (knowledge c.args.functions.now) c.args.text.now c.args.limit)
    c.from_residual.ensures.1 in_reading

pub returns-clause-ok : goal.returns-clause-ok
returns-clause-ok c = rw c.of.ensures at c.in_ok-policy.ensures.ok

pub returns-clause-low : goal.returns-clause-low
returns-clause-low c = policy_low _ c.in_ok-policy.ensures.ok.policy
