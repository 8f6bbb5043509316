-- Entities in place of slots mean what the slots mean.
use Rattle.std.proofs.Common.{◌≡◌, refl, sym, ap, ◌∙◌, false, Option, Some, None, cond}
use Rattle.cedar_model.specs.Outcomes.{Outcome, gives_bool, and_then}
use Rattle.cedar_model.specs.Terms.{EntityName, Slot, Term, literal, variable, slot, unknown, if_then_else, both, either, unary, binary, call, get_attribute, has_attribute, extended_has, like, is_of_type, set_of, record_of}
use Rattle.cedar_model.specs.World.{World, Slots, Extensions, Functions}
use Rattle.cedar_model.specs.Agreement.{no_slots}
use Rattle.cedar_model.specs.Meaning.{meaning, and_then_bool, binary_meaning, slot_meaning}
use Rattle.cedar_policy_json_text.specs.Placed.{placed, placed_slot, PlacedMeansTheSame}

module _ (X : Extensions) (ans : Functions) (w : World) (s : Slots) where
  of_slot : (x : Slot) (o : Option EntityName) → s x ≡ o → meaning X ans w s (placed_slot x o) ≡ meaning X ans w s (slot x)
  unfolding meaning slot_meaning
  of_slot x None is = refl
  of_slot x (Some e) is = ap slot_meaning (sym is)

  pub placed_means : (t : Term) → meaning X ans w s (placed s t) ≡ meaning X ans w s t
  unfolding meaning
  placed_means (slot x) = of_slot x (s x) refl
  placed_means (both a b) =
      ap (λ (o : Outcome). and_then_bool (meaning X ans w s a) (λ t. cond t (and_then_bool o gives_bool) (gives_bool false))) (placed_means b)
  placed_means (binary op a b) =
      ap (λ (o : Outcome). and_then (meaning X ans w s a) (λ u. and_then o (λ v. binary_meaning X w op u v))) (placed_means b)
  placed_means (literal l) = refl
  placed_means (variable v) = refl
  placed_means (unknown n t) = refl
  placed_means (if_then_else c a b) = refl
  placed_means (either a b) = refl
  placed_means (unary op a) = refl
  placed_means (call f ts) = refl
  placed_means (get_attribute a k) = refl
  placed_means (has_attribute a k) = refl
  placed_means (extended_has a k ks) = refl
  placed_means (like a p) = refl
  placed_means (is_of_type a t) = refl
  placed_means (set_of ts) = refl
  placed_means (record_of fs) = refl

-- part by part
pub placed_means_all : PlacedMeansTheSame
unfolding meaning
placed_means_all X ans w p =
    let s = p.slots in
    let of_both : Outcome → Outcome → Outcome = λ a b. and_then_bool a (λ t. cond t (and_then_bool b gives_bool) (gives_bool false)) in
    λ i. of_both (of_both (of_both (placed_means X ans w s p.principal_constraint i) (meaning X ans w s p.action_constraint)) (placed_means X ans w s p.resource_constraint i)) (meaning X ans w s p.when_clause)

pub nothing_placed : (t : Term) → placed no_slots t ≡ t
nothing_placed (slot x) = refl
nothing_placed (both a b) = ap (both a) (nothing_placed b)
nothing_placed (binary op a b) = ap (binary op a) (nothing_placed b)
nothing_placed (literal l) = refl
nothing_placed (variable v) = refl
nothing_placed (unknown n t) = refl
nothing_placed (if_then_else c a b) = refl
nothing_placed (either a b) = refl
nothing_placed (unary op a) = refl
nothing_placed (call f ts) = refl
nothing_placed (get_attribute a k) = refl
nothing_placed (has_attribute a k) = refl
nothing_placed (extended_has a k ks) = refl
nothing_placed (like a p) = refl
nothing_placed (is_of_type a t) = refl
nothing_placed (set_of ts) = refl
nothing_placed (record_of fs) = refl

-- the entity of a slot, as it is found, is what is placed
pub slot_placed : (s : Slots) (x : Slot) (o : Option EntityName) (t : Term) → o ≡ s x → t ≡ slot x → placed_slot x o ≡ placed s t
slot_placed s x o t found is = ap (placed_slot x) found ∙ ap (placed s) (sym is)
