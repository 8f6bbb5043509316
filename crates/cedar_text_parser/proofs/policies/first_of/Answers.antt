use Rattle.cedar_text_parser.specs.PolicyReading.{in_reading}
use Rattle.cedar_text_parser.proofs.Read.{told_alone}
use Rattle.cedar_text_parser.proofs.policies.first_of.Goals as goal

pub returns-then-is_empty : goal.returns-then-is_empty
returns-then-is_empty c = λ k text limit h. told_alone c.alone.ensures.first c.alone.ensures.rest tt in_reading
