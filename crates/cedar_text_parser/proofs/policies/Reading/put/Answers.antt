use Rattle.cedar_text_parser.proofs.Read.{policy_put, template_put}
use Rattle.cedar_text_parser.proofs.policies.Reading.put.Goals as goal

pub returns-in_ok-push-in-Some-clause-ok : goal.returns-in_ok-push-in-Some-clause-ok
returns-in_ok-push-in-Some-clause-ok c =
    λ k limit number there h e. template_put there (rw c.tokens.ensures.is at c.in-Some.ensures.some)
    c.in_ok-push-in-Some.ensures (h e)

pub returns-in_ok-push-in-None-clause-ok : goal.returns-in_ok-push-in-None-clause-ok
returns-in_ok-push-in-None-clause-ok c =
    λ k limit number there h e. policy_put there (rw c.tokens.ensures.is at c.in-None.ensures.none)
    c.in_ok-push-in-None.ensures (h e)
