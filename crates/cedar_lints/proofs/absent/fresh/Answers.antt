use Rattle.cedar_lints.specs.Keys.{has_key}
use Rattle.cedar_lints.specs.Mentions.{mentions_seen}
use Rattle.cedar_lints.proofs.absent.fresh.Goals as goal

pub returns : goal.returns
returns c = λ i. record
    { has = has_key (c.new-keys.ensures.empty i); items = mentions_seen (c.new-items.ensures.items i) }
