use Rattle.std.proofs.Common.{ap}
use Rattle.cedar_names.specs.Leaves.{variable_view}
use Rattle.cedar_layers.specs.Stores.{entity_view}
use Rattle.cedar_interpreter.specs.Known.{known_view}
use Rattle.cedar_evaluator.proofs.Direct.{found_at_hand, lacking_at_hand}
use Rattle.cedar_evaluator.proofs.evaluator.Evaluator.is_at_hand.Goals as goal

pub returns-in-Stored : goal.returns-in-Stored
returns-in-Stored g c h =
    found_at_hand c.args.self.now (variable_view c.args.var) c.known_for.result (entity_view c.in-Stored.field-0.now) c.known_for.ensures
    (ap known_view c.in-Stored.is)

pub returns-in-Lacking : goal.returns-in-Lacking
returns-in-Lacking g c h =
    lacking_at_hand c.args.self.now (variable_view c.args.var) c.known_for.result c.known_for.ensures (ap known_view c.in-Lacking.is)
