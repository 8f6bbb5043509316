use Rattle.std.proofs.Common.{◌∙◌}
use Rattle.cedar_overlay.proofs.attributes.with_attributes.Goals as goal

pub returns-in_ok-over-in-Ok-clause-store : goal.returns-in_ok-over-in-Ok-clause-store
returns-in_ok-over-in-Ok-clause-store c =
    λ i. record { entity = (c.in_ok-over-in-Ok.ensures.held ∙ c.in-Ok.ensures.held) i; is_partial = c.in_ok-over-in-Ok.ensures.partial i }

pub returns-in_ok-over-in-Ok-clause-others : goal.returns-in_ok-over-in-Ok-clause-others
returns-in_ok-over-in-Ok-clause-others c = λ n h.
    (λ i. c.in_ok-over-in-Ok.ensures.whole i n) ∙ c.in-Ok.ensures.others n h
