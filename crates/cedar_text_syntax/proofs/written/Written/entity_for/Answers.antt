use Rattle.cedar_text_syntax.proofs.PolicyTurns.{reference_made}
use Rattle.cedar_text_syntax.proofs.written.Written.entity_for.Goals as goal

pub returns-clause-ok : goal.returns-clause-ok
returns-clause-ok c = reference_made c.in_ok-reach.ensures.ok
