use Rattle.cedar_functions.specs.Functions.{knowledge}
use Rattle.cedar_text_parser.specs.PolicyReading.{in_reading}
use Rattle.cedar_text_parser.proofs.PolicyHeights.{all_low}
use Rattle.cedar_text_parser.proofs.Read.{told_alone}
use Rattle.cedar_text_parser.proofs.policies.parse_policies.Goals as goal

pub returns-in-Err-clause-told : goal.returns-in-Err-clause-told
returns-in-Err-clause-told c = told_alone c.alone.ensures.first c.alone.ensures.rest tt in_reading

pub returns-in_ok-parsed-in-Ok-clause-low : goal.returns-in_ok-parsed-in-Ok-clause-low
returns-in_ok-parsed-in-Ok-clause-low c =
    all_low _
    (c.in_ok-parsed-in-Ok.ensures.ok (knowledge c.args.functions.now) c.args.text.now c.args.limit c.in-Ok.ensures.ok)
