use Rattle.std.proofs.Common.{ap}
use Rattle.std.specs.Rc.{rc_str_bytes}
use Rattle.cedar_reasons.specs.Facts.{of_tag}
use Rattle.cedar_reasons.proofs.Listed.{fact_more}
use Rattle.cedar_reasons.proofs.facts.add_tag.Goals as goal

pub returns : goal.returns
returns c =
    fact_more c.args.facts.now.items _ _ _ c.in_ok-add_last.ensures.ok
    (ap (λ n. of_tag n (rc_str_bytes c.args.name.now)) c.uid.ensures.name)
