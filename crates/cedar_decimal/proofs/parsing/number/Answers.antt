use Rattle.std.proofs.Common.{◌∙◌}
use Rattle.cedar_decimal.proofs.Digits.{parsed}
use Rattle.cedar_decimal.proofs.parsing.number.Goals as goal

pub returns : goal.returns
returns c = c.ok.ensures.value ∙ parsed c.args.digits.now c.parse.result c.parse.ensures.value.0 c.requires
