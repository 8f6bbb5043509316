use Rattle.cedar_text_parser.specs.Refusals.{otherwise, twice}
use Rattle.cedar_text_parser.proofs.Again.{again_within}
use Rattle.cedar_text_parser.proofs.builder.refuse_record.Goals as goal

pub wanted_at-requires : goal.wanted_at-requires
wanted_at-requires c = again_within (rw c.in-Ok-Some.field-0-is at c.in-Ok-Some.ensures.ok)

pub returns-in-Ok-Some : goal.returns-in-Ok-Some
returns-in-Ok-Some c = rw c.wanted_at.ensures (twice (rw c.in-Ok-Some.field-0-is at c.in-Ok-Some.ensures.ok))

pub returns-in-Ok-None : goal.returns-in-Ok-None
returns-in-Ok-None c = otherwise c.ill_made.ensures

pub returns-in-DuplicateKey : goal.returns-in-DuplicateKey
returns-in-DuplicateKey c = otherwise c.in-Err.ensures.err

pub returns : goal.returns
returns c = otherwise tt
