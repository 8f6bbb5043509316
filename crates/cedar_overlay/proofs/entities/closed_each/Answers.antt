use Rattle.cedar_layers.specs.Stores.{stored_entity}
use Rattle.cedar_hierarchy.specs.Ancestry.{parents_of}
use Rattle.cedar_overlay.proofs.Widened.{placed_all}
use Rattle.cedar_overlay.proofs.entities.closed_each.Goals as goal

pub returns-in_ok-widened_each-in-Ok-clause-placed : goal.returns-in_ok-widened_each-in-Ok-clause-placed
returns-in_ok-widened_each-in-Ok-clause-placed c =
    placed_all (parents_of c.args.brought.items) (stored_entity c.args.entities.now) c.args.brought.items c.in-Ok.closed.items c.in_ok-widened_each-in-Ok.field-0.items
    c.in-Ok.ensures.each c.in_ok-widened_each-in-Ok.ensures
