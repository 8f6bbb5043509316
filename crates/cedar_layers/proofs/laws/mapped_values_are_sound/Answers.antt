use Rattle.cedar_layers.proofs.Sound.{mapping_is_sound}
use Rattle.cedar_layers.proofs.laws.mapped_values_are_sound.Goals as goal

pub returns : goal.returns
returns c = mapping_is_sound c.args.map.now.entries
