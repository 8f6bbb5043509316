use Rattle.cedar_text_parser.specs.Reading.{IsWithin}
use Rattle.cedar_text_parser.proofs.Places.{four_read, passed_up, steps_within, refused_within}
use Rattle.cedar_text_parser.proofs.reading.four_expressions.Goals as goal

pub returns-in_err-builder-clause-placed : goal.returns-in_err-builder-clause-placed
returns-in_err-builder-clause-placed c =
    passed_up c.from_residual.result _ (IsWithin c.args.source.now.text) c.from_residual.ensures.1
    (steps_within c.args.source.now c.tokens_stand.ensures.stand _ c.in_err-builder.ensures.err)

pub returns-in_err-made-clause-placed : goal.returns-in_err-made-clause-placed
returns-in_err-made-clause-placed c =
    passed_up c.from_residual-in_err-made.result _ (IsWithin c.args.source.now.text)
    c.from_residual-in_err-made.ensures.1
    (refused_within c.args.source.now c.tokens_stand.ensures.stand _ c.in_err-made.ensures.err)

pub returns-clause-ok : goal.returns-clause-ok
returns-clause-ok c = four_read c.in_ok-made.ensures.ok c.in_ok-builder.ensures.ok
