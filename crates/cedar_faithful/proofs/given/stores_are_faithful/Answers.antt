use Rattle.cedar_laws.proofs.Faithfulness.{store_faithful}
use Rattle.cedar_layers.specs.Stores.{store_view}
use Rattle.cedar_layers.proofs.Sound.{store_is_sound}
use Rattle.cedar_faithful.proofs.given.stores_are_faithful.Goals as goal

pub returns : goal.returns
returns c = λ none X ans.
    store_faithful X ans (store_view c.args.entities.now) (store_is_sound c.args.entities.now) none
