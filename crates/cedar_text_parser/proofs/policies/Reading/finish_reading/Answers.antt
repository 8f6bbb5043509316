use Rattle.cedar_text_parser.specs.PolicyReading.{in_reading}
use Rattle.cedar_text_parser.proofs.Read.{told_alone}
use Rattle.cedar_text_parser.proofs.policies.Reading.finish_reading.Goals as goal

pub returns-in-Err-clause-told : goal.returns-in-Err-clause-told
returns-in-Err-clause-told c =
    λ k text limit h. told_alone c.alone.ensures.first c.alone.ensures.rest tt in_reading
