use Rattle.cedar_text_parser.specs.PolicyReading.{in_reading}
use Rattle.cedar_text_parser.proofs.Read.{told_behind}
use Rattle.cedar_text_parser.proofs.Places.{placed_within}
use Rattle.cedar_text_parser.specs.declared.errors.ParseError.TheVariants as parse
use Rattle.cedar_text_parser.proofs.policies.Reading.end_reading.Goals as goal

pub returns-in_ok-reading-in-Err-clause-told : goal.returns-in_ok-reading-in-Err-clause-told
returns-in_ok-reading-in-Err-clause-told c =
    λ k limit h.
    told_behind (parse.Read c.in-Err.error) c.in_ok-reading-in-Err.ensures.told
    (placed_within c.args.source.now c.tokens.ensures.own.stand _ (rw c.tokens.ensures.is at c.in-Err.ensures.err))
    in_reading h
