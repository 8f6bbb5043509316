use Rattle.std.proofs.Common.{◌∙◌, sym, ap, lit<, None}
use Rattle.std.proofs.lemmas.Str.Pattern.{strip_prefix_char}
use Rattle.cedar_decimal.specs.Decimals.{positive}
use Rattle.cedar_decimal.proofs.Signs.{unsigned}
use Rattle.cedar_decimal.proofs.parsing.parse.Goals as goal

pub returns-in-None : goal.returns-in-None
returns-in-None c =
    c.positive.ensures ∙ ap positive c.parse_unsigned-in-None.ensures
    ∙ sym (unsigned c.args.text.now (strip_prefix_char 45 c.args.text.now None c.in-None.ensures.cases (lit< tt)))
