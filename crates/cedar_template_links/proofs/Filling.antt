-- Entities in slots.
use Rattle.std.proofs.Common.{◌≡◌, refl, sym, ap, ◌∙◌, cond, [], Option, Some, None, option_map}
use Rattle.std.specs.HashMap.{get, Updates}
use Rattle.cedar_model.specs.Terms.{EntityName, Slot, principal_slot, resource_slot}
use Rattle.cedar_model.specs.Agreement.{no_slots}
use Rattle.cedar_names.specs.contracts.names.SlotIdPartialEq.TheImpl.{eq-value}
use Rattle.cedar_names.specs.declared.names.EntityUID.{EntityUID}
use Rattle.cedar_names.specs.declared.names.SlotId.{SlotId}
use Rattle.cedar_names.specs.declared.names.SlotId.TheVariants as slots
use Rattle.cedar_names.specs.Leaves.{slot_view}
use Rattle.cedar_names.specs.Names.{uid_name}
use Rattle.cedar_layers.specs.Policies.{SlotValues, slots_view}
use Rattle.cedar_layers.proofs.Slots.{slots_view-empty, option_map-get_slot}
use Rattle.cedar_template_links.specs.Linking.{slots_with, with_value}

with_one : (old : SlotValues) (u : EntityUID) (s q : SlotId)
    → option_map uid_name (cond (eq-value.it s q) (Some u) (get eq-value.it old q)) ≡ with_value (slot_view s) (Some (uid_name u)) (slots_view old) (slot_view q)
with_one old u slots.Principal slots.Principal = refl
with_one old u slots.Principal slots.Resource = option_map-get_slot old slots.Resource
with_one old u slots.Resource slots.Principal = option_map-get_slot old slots.Principal
with_one old u slots.Resource slots.Resource = refl

-- an entity that is put under a slot stands in it, and the other slot has what it had
pub slot_filled : (old new : SlotValues) (s : SlotId) (u v : EntityUID) → Updates eq-value.it old new s (Some u) → uid_name u ≡ uid_name v
    → slots_view new ≡ with_value (slot_view s) (Some (uid_name v)) (slots_view old)
slot_filled old new s u v h named = (λ i t. point t i) ∙ ap (λ (n : EntityName). with_value (slot_view s) (Some n) (slots_view old)) named
  where
    by : (q : SlotId) → slots_view new (slot_view q) ≡ with_value (slot_view s) (Some (uid_name u)) (slots_view old) (slot_view q)
    by q = sym (option_map-get_slot new q) ∙ ap (option_map uid_name) (h.0 q) ∙ with_one old u s q

    point : (t : Slot) → slots_view new t ≡ with_value (slot_view s) (Some (uid_name u)) (slots_view old) t
    point principal_slot = by slots.Principal
    point resource_slot = by slots.Resource

-- both slots, one after the other
both_with : (p r : Option EntityName) (t : Slot) → with_value resource_slot r (with_value principal_slot p no_slots) t ≡ slots_with (p, r) t
both_with None None principal_slot = refl
both_with None None resource_slot = refl
both_with None (Some r) principal_slot = refl
both_with None (Some r) resource_slot = refl
both_with (Some p) None principal_slot = refl
both_with (Some p) None resource_slot = refl
both_with (Some p) (Some r) principal_slot = refl
both_with (Some p) (Some r) resource_slot = refl

pub both_filled : (p r : Option EntityName) (empty one two : SlotValues) → empty.entries ≡ [] → slots_view one ≡ with_value principal_slot p (slots_view empty)
    → slots_view two ≡ with_value resource_slot r (slots_view one) → slots_view two ≡ slots_with (p, r)
both_filled p r empty one two none first second =
    second ∙ ap (with_value resource_slot r) (first ∙ ap (with_value principal_slot p) (slots_view-empty empty none)) ∙ (λ i t. both_with p r t i)

pub ruleset filling = (slot_filled, both_filled)
