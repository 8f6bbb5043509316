-- Ids and names, one policy at a time.
use Rattle.std.proofs.Common.{◌≡◌, refl, sym, ap, ◌∙◌, is_some, List, [], ◌∷◌, ◌++◌, append_assoc, map, Option, Some, None, option_map, option_copied}
use Rattle.std.specs.Prelude.{flat_map}
use Rattle.std.specs.Borrow.{Bor}
use Rattle.std.specs.Map.{lookup}
use Rattle.std.proofs.lemmas.List.{map-append}
use Rattle.cedar_model.specs.Terms.{Text}
use Rattle.cedar_names.specs.contracts.names.SlotIdPartialEq.TheImpl.{eq-value}
use Rattle.cedar_names.specs.Leaves.{slot_view}
use Rattle.cedar_names.specs.Names.{uid_name}
use Rattle.cedar_names.specs.declared.names.EntityUID.{EntityUID}
use Rattle.cedar_names.specs.declared.names.SlotId.{SlotId}
use Rattle.cedar_layers.proofs.Slots.{option_map-get_slot}
use Rattle.cedar_layers.specs.Policies.{PolicyView, SlotValues, slots_view, policy_view, policy_ids}
use Rattle.cedar_layers.specs.declared.policies.policy.Policy.{Policy}
use Rattle.cedar_policy_json_text.specs.Names.{id_and_name}

-- ---- slots

copied_some : (o : Option (Bor EntityUID)) → is_some o ≡ is_some (option_copied o)
copied_some None = refl
copied_some (Some u) = refl

named_some : (o : Option EntityUID) → is_some o ≡ is_some (option_map uid_name o)
named_some None = refl
named_some (Some u) = refl

-- there is an entity for a slot where one is found
pub found_some : (env : SlotValues) (s : SlotId) (o : Option (Bor EntityUID)) → option_copied o ≡ lookup (eq-value.it s) env.entries
    → is_some o ≡ is_some (slots_view env (slot_view s))
found_some env s o is = copied_some o ∙ ap is_some is ∙ named_some (lookup (eq-value.it s) env.entries) ∙ ap is_some (option_map-get_slot env s)

-- ---- texts

-- one more that was put
pub one_put : (old new : List Policy) (p : Policy) (k : Text) → map policy_view new ≡ map policy_view old ++ policy_view p ∷ [] → (policy_view p).id ≡ k
    → policy_ids (map policy_view new) ≡ policy_ids (map policy_view old) ++ k ∷ []
one_put old new p k is id =
    ap policy_ids is ∙ map-append (λ (q : PolicyView). q.id) (map policy_view old) (policy_view p ∷ [])
    ∙ ap (λ (t : Text). policy_ids (map policy_view old) ++ t ∷ []) id

-- one that is put under two texts
pub two_put : (old once twice : List Text) (a b : Text) → once ≡ old ++ a ∷ [] → twice ≡ once ++ b ∷ [] → twice ≡ old ++ a ∷ b ∷ []
two_put old once twice a b first second = second ∙ ap (λ (ts : List Text). ts ++ b ∷ []) first ∙ append_assoc old (a ∷ []) (b ∷ [])

-- the texts of one more policy
pub names_more : (all done new : List Text) (p : PolicyView) (rest : List PolicyView) → done ++ flat_map id_and_name (p ∷ rest) ≡ all → new ≡ done ++ id_and_name p
    → new ++ flat_map id_and_name rest ≡ all
names_more all done new p rest whole is =
    ap (λ (ts : List Text). ts ++ flat_map id_and_name rest) is ∙ append_assoc done (id_and_name p) (flat_map id_and_name rest) ∙ whole

pub ruleset sharing = (found_some, one_put, two_put)
