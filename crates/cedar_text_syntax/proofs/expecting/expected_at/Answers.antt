use Rattle.std.proofs.Common.{arith}
use Rattle.cedar_text_syntax.proofs.Erring.{token_placed, end_placed}
use Rattle.cedar_text_syntax.proofs.expecting.expected_at.Goals as goal

pub returns-then-index-tokens : goal.returns-then-index-tokens
returns-then-index-tokens c =
    token_placed {i = c.args.index} c.args.what (grind arith) c.token_at.ensures c.expected.ensures

pub returns-else-index-tokens : goal.returns-else-index-tokens
returns-else-index-tokens c = end_placed c.end_of-end.ensures
