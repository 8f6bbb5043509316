use Rattle.cedar_text_syntax.proofs.PolicyTurns.{first_put}
use Rattle.cedar_text_syntax.proofs.written.Written.entities.Goals as goal

pub loop-done-init : goal.loop-done-init
loop-done-init c = first_put c.in_ok-first.ensures.ok
