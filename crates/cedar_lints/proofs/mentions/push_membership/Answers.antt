use Rattle.cedar_lints.proofs.Passing.{two_parts}
use Rattle.cedar_lints.proofs.mentions.push_membership.Goals as goal

pub returns : goal.returns
returns c = two_parts _ _ _ _ _ c.in_ok-push_mentions.ensures c.in_ok-push_group.ensures
