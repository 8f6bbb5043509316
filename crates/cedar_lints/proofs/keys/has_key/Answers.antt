use Rattle.std.proofs.Common.{◌∙◌}
use Rattle.cedar_lints.proofs.KeySets.{has_key-stored}
use Rattle.cedar_lints.proofs.keys.has_key.Goals as goal

pub returns : goal.returns
returns c = c.contains.ensures ∙ has_key-stored c.args.key.now c.args.keys.now.keys
