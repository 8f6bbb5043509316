-- The values of slots, as a map gives them.
use Rattle.std.proofs.Common.{◌≡◌, refl, List, [], ap, option_map}
use Rattle.std.specs.Map.{lookup}
use Rattle.cedar_model.specs.World.{Slots}
use Rattle.cedar_model.specs.Agreement.{no_slots}
use Rattle.cedar_names.specs.contracts.names.SlotIdPartialEq.TheImpl.{eq-value}
use Rattle.cedar_names.specs.declared.names.EntityUID.{EntityUID}
use Rattle.cedar_names.specs.declared.names.SlotId.{SlotId}
use Rattle.cedar_names.specs.declared.names.SlotId.TheVariants as slots
use Rattle.cedar_names.specs.Leaves.{slot_view}
use Rattle.cedar_names.specs.Names.{uid_name}
use Rattle.cedar_layers.specs.Policies.{SlotValues, is_slot, slots_view}

-- an empty map gives no slot a value
pub slots_view-empty : (env : SlotValues) → env.entries ≡ [] → slots_view env ≡ no_slots
slots_view-empty env empty =
    let given : List (SlotId × EntityUID) → Slots = λ es s. option_map uid_name (lookup (is_slot s) es) in
    ap given empty

-- slots are equal where they are one
pub same_slot : (s t : SlotId) → eq-value.it s t ≡ is_slot (slot_view s) t
same_slot slots.Principal slots.Principal = refl
same_slot slots.Principal slots.Resource = refl
same_slot slots.Resource slots.Principal = refl
same_slot slots.Resource slots.Resource = refl

-- what `get` finds under a slot is the slot's value
pub option_map-get_slot : (env : SlotValues) (s : SlotId) → option_map uid_name (lookup (eq-value.it s) env.entries) ≡ slots_view env (slot_view s)
option_map-get_slot env s = λ i. option_map uid_name (lookup (λ (t : SlotId). same_slot s t i) env.entries)
