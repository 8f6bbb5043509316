use Rattle.std.proofs.Common.{map}
use Rattle.cedar_layers.specs.Stores.{stored_entity, shown}
use Rattle.cedar_names.specs.Names.{uid_name}
use Rattle.cedar_scope_actions.proofs.Listing.{by_stored}
use Rattle.cedar_scope_actions.proofs.listed.add_stored.Goals as goal

pub returns : goal.returns
returns c =
    by_stored _ c.add_keys.result (map uid_name c.args.uids.now.keys) (map uid_name c.add_keys.new.uids.keys) (shown c.in_ok-stored.stored.entries) (stored_entity c.args.entities.now) c.in_ok-stored.ensures c.add_keys.ensures
