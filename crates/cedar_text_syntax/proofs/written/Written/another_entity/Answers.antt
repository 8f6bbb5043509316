use Rattle.cedar_text_syntax.proofs.PolicyTurns.{another_put}
use Rattle.cedar_text_syntax.proofs.written.Written.another_entity.Goals as goal

pub returns-clause-ok : goal.returns-clause-ok
returns-clause-ok c =
    λ i n ts h. another_put h c.in_ok-at.ensures.is c.in_ok-at.ensures.next c.in_ok-entity.ensures.ok
