use Rattle.cedar_text_syntax.proofs.PolicyTurns.{unconstrained_made}
use Rattle.cedar_text_syntax.proofs.written.Written.read_unconstrained.Goals as goal

pub returns-clause-ok : goal.returns-clause-ok
returns-clause-ok c = unconstrained_made c.requires.is c.start_at.ensures c.end_at.ensures c.in_ok-put.ensures.ok
