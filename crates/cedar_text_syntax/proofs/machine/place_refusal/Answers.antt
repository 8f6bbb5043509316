use Rattle.std.proofs.Common.{arith}
use Rattle.cedar_text_syntax.specs.Places.{for_memory}
use Rattle.cedar_text_syntax.proofs.Erring.{token_placed, deep_placed}
use Rattle.cedar_text_syntax.proofs.machine.place_refusal.Goals as goal

pub returns-in-Memory : goal.returns-in-Memory
returns-in-Memory c = for_memory

pub returns-in-Expected : goal.returns-in-Expected
returns-in-Expected c = token_placed c.in-Expected.what c.requires c.token_at-token.ensures c.expected.ensures

pub returns-in-TooDeep : goal.returns-in-TooDeep
returns-in-TooDeep c = deep_placed c.requires c.token_at-token.ensures (omega (arith, c.min.ensures))
