use Rattle.std.proofs.Common.{false, option_map}
use Rattle.cedar_layers.specs.Stores.{entity_view, standing_in}
use Rattle.cedar_layers.proofs.Stores.{entries_of}
use Rattle.cedar_layers.proofs.policies.entities.Entities.new.Goals as goal

pub returns : goal.returns
returns c =
    λ i. record { entity = λ n. option_map entity_view (standing_in (entries_of (c.new.ensures.items i)) n); is_partial = false }
