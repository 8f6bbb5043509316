use Rattle.cedar_lints.specs.Keys.{has_key}
use Rattle.cedar_lints.specs.Lookalikes.{lookalikes_view}
use Rattle.cedar_lints.proofs.lookalikes.fresh.Goals as goal

pub returns : goal.returns
returns c = λ i. record
    { has = has_key (c.new-keys.ensures.empty i); items = lookalikes_view (c.new-items.ensures.items i) }
