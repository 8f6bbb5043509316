use Rattle.cedar_layers.proofs.Sound.{store_is_sound}
use Rattle.cedar_layers.proofs.laws.stores_are_sound.Goals as goal

pub returns : goal.returns
returns c = store_is_sound c.args.entities.now
