-- What a recorded entity leads to stays as it is where more entities come.
use Rattle.std.proofs.Common.{◌≡◌, refl, sym, ◌∙◌, Bool, true, false, List, map}
use Rattle.cedar_model.specs.Terms.{EntityName}
use Rattle.cedar_model.specs.Settings.{is_among}
use Rattle.cedar_layers.specs.declared.policies.entities.Entity.{Entity}
use Rattle.cedar_layers.specs.Stores.{entity_name}
use Rattle.cedar_hierarchy.specs.Paths.{Leads, in_one_step, by_a_parent}
use Rattle.cedar_hierarchy.specs.Ancestry.{parents_of}
use Rattle.cedar_hierarchy.specs.LeftOut.{IsLeftOut, IsRecorded, HaveTheSameParents}

-- a name passes a test or it doesn't
pub told_apart : {B : Type 0} (b : Bool) → (b ≡ true → B) → (b ≡ false → B) → B
told_apart true yes_so not_so = yes_so refl
told_apart false yes_so not_so = not_so refl

-- what a recorded entity leads to is among the entities
pub leads_among : (these : List Entity) (n m : EntityName) → IsRecorded these n → Leads (parents_of these) n m → is_among m (map entity_name these) ≡ true
leads_among these n m recorded l =
    told_apart (is_among m (map entity_name these)) (λ h. h) (λ h. absurd (recorded.kept (record { missing = m; led_to = l; not_there = h })))

-- so it is recorded too
parent_recorded : (these : List Entity) (n p : EntityName) → IsRecorded these n → is_among p (parents_of these n) ≡ true → IsRecorded these p
parent_recorded these n p recorded h = record {
  there = leads_among these n p recorded (in_one_step n p h);
  kept = λ (left : IsLeftOut these p). recorded.kept (record { missing = left.missing; led_to = by_a_parent n p left.missing h left.led_to; not_there = left.not_there });
}

module _ (these larger : List Entity) (same : HaveTheSameParents these larger) where
  pub leads_as_before : (n m : EntityName) → IsRecorded these n → Leads (parents_of larger) n m → Leads (parents_of these) n m
  leads_as_before n m r (in_one_step _ _ h) = in_one_step n m (sym (same n m r) ∙ h)
  leads_as_before n m r (by_a_parent _ p _ h rest) =
      let k : is_among p (parents_of these n) ≡ true = sym (same n p r) ∙ h in
      by_a_parent n p m k (leads_as_before p m (parent_recorded these n p r k) rest)

  pub leads_still : (n m : EntityName) → IsRecorded these n → Leads (parents_of these) n m → Leads (parents_of larger) n m
  leads_still n m r (in_one_step _ _ h) = in_one_step n m (same n m r ∙ h)
  leads_still n m r (by_a_parent _ p _ h rest) =
      by_a_parent n p m (same n p r ∙ h) (leads_still p m (parent_recorded these n p r h) rest)
