use Rattle.cedar_text_syntax.proofs.PolicyTurns.{scope_made}
use Rattle.cedar_text_syntax.proofs.written.Written.scope.Goals as goal

pub returns-clause-ok : goal.returns-clause-ok
returns-clause-ok c =
    scope_made c.in_ok-principal.ensures.is c.in_ok-principal.ensures.next c.in_ok-comma.ensures.ok
    c.in_ok-action.ensures.is c.in_ok-action.ensures.next c.in_ok-comma-2.ensures.ok c.in_ok-resource.ensures.is
    c.in_ok-resource.ensures.next c.in_ok-close.ensures.ok c.in_ok-next.ensures.is c.in_ok-next.ensures.next
