use Rattle.std.proofs.Common.{◌≡◌, ap, ◌∙◌, sym, Bool, true, false, is_some}
use Rattle.std.specs.Prelude.{◌||◌}
use Rattle.cedar_model.specs.Terms.{Slot, principal_slot, resource_slot}
use Rattle.cedar_model.specs.World.{Slots}
use Rattle.cedar_layers.specs.Policies.{slots_view}
use Rattle.cedar_policy_json_text.proofs.names.is_linked.Goals as goal

-- what is found of a slot in slots that are the same
found_in : (b : Bool) (s t : Slots) (k : Slot) → b ≡ is_some (s k) → s ≡ t → b ≡ is_some (t k)
found_in b s t k is same = is ∙ ap (λ (f : Slots). is_some (f k)) same

-- the first of two that are asked is not so
second_alone : (a b c d : Bool) → a ≡ false → a ≡ c → b ≡ d → b ≡ (c || d)
second_alone a b c d isnt is_c is_d = is_d ∙ ap (λ (x : Bool). x || d) (sym isnt ∙ is_c)

-- the first is
first_is : (a c d : Bool) → a ≡ true → a ≡ c → a ≡ (c || d)
first_is a c d holds is_c = holds ∙ ap (λ (x : Bool). x || d) (sym holds ∙ is_c)

-- src/names.rt:38:1
pub returns-then-has_entity : goal.returns-then-has_entity
returns-then-has_entity c =
    first_is _ _ _ c.if-has_entity.true (found_in _ _ _ principal_slot c.has_entity.ensures c.env.ensures)

-- src/names.rt:38:1
pub returns-else-has_entity : goal.returns-else-has_entity
returns-else-has_entity c =
    second_alone _ _ _ _ c.if-has_entity.false (found_in _ _ _ principal_slot c.has_entity.ensures c.env.ensures)
    (found_in _ _ _ resource_slot c.has_entity-else-has_entity.ensures c.env-else-has_entity.ensures)
