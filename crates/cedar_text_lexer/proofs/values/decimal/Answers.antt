use Rattle.std.proofs.Common.{◌∙◌, arith}
use Rattle.std.proofs.lemmas.Int.Digits.{digits_value_more}
use Rattle.cedar_text_lexer.proofs.Reading.{too_large}
use Rattle.cedar_text_lexer.proofs.values.decimal.Goals as goal

pub returns-then-value-digit-clause-large : goal.returns-then-value-digit-clause-large
returns-then-value-digit-clause-large c = too_large c.args.bytes.now c.loop-i.i c.loop-i.value c.from-digit.result 9223372036854775808 c.loop-i-test.true c.loop-i.invariant.0 (c.from-digit.ensures ∙ c.digit.ensures.value) (omega arith)

pub loop-i-preserved : goal.loop-i-preserved
loop-i-preserved c =
    (omega (arith, digits_value_more 10 c.args.bytes.now c.loop-i.i c.loop-i-test.true, c.loop-i.invariant.0, c.from-digit.ensures, c.digit.ensures.value), omega arith)
