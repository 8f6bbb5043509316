use Rattle.cedar_names.specs.Names.{uid_name}
use Rattle.std.specs.Rc.{rc_str_bytes}
use Rattle.cedar_layers.specs.Stores.{entity_view}
use Rattle.cedar_overlay.specs.Overlaid.{values_view}
use Rattle.cedar_overlay.proofs.Laid.{refused_by_name}
use Rattle.cedar_overlay.proofs.attributes.overlaid_stored.Goals as goal

pub returns-in-Some-clause-refused : goal.returns-in-Some-clause-refused
returns-in-Some-clause-refused c =
    refused_by_name (uid_name c.args.uid) (values_view c.args.attributes) c.args.request_wins (entity_view c.args.stored.now)
    (rc_str_bytes c.in-Some.name.now) c.has_attribute.result c.has_attribute.ensures c.in-Some.ensures.0 c.in-Some.ensures.1
