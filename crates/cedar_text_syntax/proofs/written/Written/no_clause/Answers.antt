use Rattle.std.proofs.Common.{arith}
use Rattle.cedar_text_syntax.proofs.PolicyTurns.{no_condition_made}
use Rattle.cedar_text_syntax.proofs.written.Written.no_clause.Goals as goal

pub returns-clause-ok : goal.returns-clause-ok
returns-clause-ok c =
    no_condition_made c.in_ok-expect.ensures.is (grind arith) c.start_at-2.ensures c.end_at.ensures c.in_ok-put.ensures.ok
