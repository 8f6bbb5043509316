use Rattle.std.proofs.Common.{arith}
use Rattle.cedar_text_syntax.proofs.Erring.{deep_up_to}
use Rattle.cedar_text_syntax.proofs.expecting.too_deep.Goals as goal

pub returns-then-index-tokens : goal.returns-then-index-tokens
returns-then-index-tokens c =
    deep_up_to {i = c.args.index} (grind arith) c.end_at-end.ensures (omega (arith, c.min.ensures))
