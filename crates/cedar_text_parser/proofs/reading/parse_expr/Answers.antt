use Rattle.cedar_functions.specs.Functions.{knowledge}
use Rattle.cedar_text_parser.specs.Reading.{IsNotParsed, unread, for_memory}
use Rattle.cedar_text_parser.proofs.Heights.{read_low}
use Rattle.cedar_text_parser.proofs.Places.{passed_up}
use Rattle.cedar_text_parser.proofs.reading.parse_expr.Goals as goal

pub returns-in_err-tokens-clause-err : goal.returns-in_err-tokens-clause-err
returns-in_err-tokens-clause-err c =
    passed_up c.from_residual.result _ (IsNotParsed (knowledge c.args.functions.now) c.args.text.now)
    c.from_residual.ensures.1 (unread for_memory)

pub returns-clause-low : goal.returns-clause-low
returns-clause-low c = read_low _ c.in_ok-made.ensures.ok

pub returns-clause-ok : goal.returns-clause-ok
returns-clause-ok c = rw c.of.ensures at c.in_ok-made.ensures.ok
