use Rattle.cedar_text_syntax.proofs.PolicyTurns.{condition_made}
use Rattle.cedar_text_syntax.proofs.written.Written.condition.Goals as goal

pub returns-clause-ok : goal.returns-clause-ok
returns-clause-ok c = condition_made c.in_ok-clauses.ensures.ok c.in_ok-clauses.ensures.low c.in_ok-expect.ensures.is
