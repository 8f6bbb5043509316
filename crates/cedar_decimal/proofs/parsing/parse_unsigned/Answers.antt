use Rattle.std.proofs.Common.{◌∙◌, sym, ap}
use Rattle.cedar_decimal.specs.Bounds.{within_64_bits}
use Rattle.cedar_decimal.proofs.Parts.{split, no_dot}
use Rattle.cedar_decimal.proofs.parsing.parse_unsigned.Goals as goal

pub returns-in-Some : goal.returns-in-Some
returns-in-Some c =
    c.value_of_parts.ensures ∙ ap within_64_bits (sym (split c.args.text.now c.in-Some.whole c.in-Some.fraction c.in-Some.ensures.cases))

pub returns-in-None : goal.returns-in-None
returns-in-None c = ap within_64_bits (sym (no_dot c.args.text.now c.in-None.ensures.cases))
