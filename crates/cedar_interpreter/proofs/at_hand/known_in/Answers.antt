use Rattle.cedar_names.specs.Names.{uid_name}
use Rattle.cedar_values.specs.Residuals.{partial_view}
use Rattle.cedar_layers.specs.Stores.{store_view}
use Rattle.cedar_interpreter.proofs.Looked.{looked_up_if}
use Rattle.cedar_interpreter.proofs.at_hand.known_in.Goals as goal

pub returns-in-Some : goal.returns-in-Some
returns-in-Some c =
    looked_up_if (store_view c.args.entities.now) (partial_view c.args.part.now) (uid_name c.in-Some.uid.now) c.looked_up.result c.in-Some.ensures c.looked_up.ensures
