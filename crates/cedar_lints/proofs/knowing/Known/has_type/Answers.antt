use Rattle.std.proofs.Common.{◌∙◌}
use Rattle.cedar_lints.proofs.KnownSets.{has_type-stored}
use Rattle.cedar_lints.proofs.knowing.Known.has_type.Goals as goal

pub returns : goal.returns
returns c = c.contains.ensures ∙ has_type-stored c.args.ty.now c.args.self.now.types.keys
