use Rattle.std.proofs.Common.{◌∙◌}
use Rattle.cedar_layers.proofs.Stores.{list_any-uids}
use Rattle.cedar_lints.proofs.knowing.Known.has_entity.Goals as goal

pub returns : goal.returns
returns c = c.contains.ensures ∙ list_any-uids c.args.uid.now c.args.self.now.entities.keys
