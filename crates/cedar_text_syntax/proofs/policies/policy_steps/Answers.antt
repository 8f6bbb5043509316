use Rattle.std.proofs.Common.{refl}
use Rattle.cedar_text_syntax.proofs.PolicyTurns.{policy_read}
use Rattle.cedar_text_syntax.proofs.policies.policy_steps.Goals as goal

pub returns-clause-ok : goal.returns-clause-ok
returns-clause-ok c =
    policy_read _ c.in_ok-annotations.ensures.ok c.in_ok-permits.ensures.ok
    (rw c.new-written.ensures at c.in_ok-clauses.ensures.ok) c.in_ok-last.ensures.ok refl c.start_at.ensures
    c.end_at.ensures refl c.in_ok-last.ensures.within
