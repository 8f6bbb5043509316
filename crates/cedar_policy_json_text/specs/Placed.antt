-- Linked policies with their entities in place of slots, as a text has them.
use Rattle.std.specs.Prelude.{◌≡◌, Bool, ◌||◌, false, List, [], ◌∷◌, if◌then◌else◌, Option, Some, None}
use Rattle.cedar_model.specs.Terms.{Text, EntityName, entity_literal, Slot, Term, literal, slot, both, binary}
use Rattle.cedar_model.specs.World.{World, Slots, Extensions, Functions}
use Rattle.cedar_model.specs.Agreement.{no_slots}
use Rattle.cedar_model.specs.Outcomes.{text_eq}
use Rattle.cedar_model.specs.Meaning.{meaning}
use Rattle.cedar_layers.specs.Policies.{PolicyView, condition_term}
use Rattle.cedar_template_links.specs.Links.{LinkView}
use Rattle.cedar_policy_set_reader.specs.PolicySets.{PolicySetView}

-- the entity of a slot, or the slot where it has none
abbrev pub placed_slot : Slot → Option EntityName → Term
placed_slot x None = slot x
placed_slot x (Some e) = literal (entity_literal e)

-- the constraint with the entities in place of its slots, which stand alone, or beside an operator, also behind `&&`
abbrev pub placed : Slots → Term → Term
placed s (slot x) = placed_slot x (s x)
placed s (both t u) = both t (placed s u)
placed s (binary op t u) = binary op t (placed s u)
placed s t = t

-- the policy without slots and with these annotations: the entities of its slots stand in their places
abbrev pub placed_with : List (Text × Text) → PolicyView → PolicyView
placed_with annotations p = record {
  effect = p.effect;
  id = p.id;
  annotations = annotations;
  principal_constraint = placed p.slots p.principal_constraint;
  action_constraint = p.action_constraint;
  resource_constraint = placed p.slots p.resource_constraint;
  when_clause = p.when_clause;
  slots = no_slots;
}

-- the same without annotations
abbrev pub placed_view : PolicyView → PolicyView
placed_view p = placed_with [] p

-- a linked policy means the same with its entities in place of slots
abbrev pub PlacedMeansTheSame : Type 0
PlacedMeansTheSame = (X : Extensions) (ans : Functions) (w : World) (p : PolicyView)
    → meaning X ans w p.slots (condition_term (placed_view p)) ≡ meaning X ans w p.slots (condition_term p)

-- where no slot has a value, nothing is placed
abbrev pub NothingIsPlaced : Type 0
NothingIsPlaced = (t : Term) → placed no_slots t ≡ t

-- ---- templates that have links

-- whether one of the links is of the template of this id
abbrev pub has_link : Text → List LinkView → Bool
has_link k [] = false
has_link k (l ∷ ls) = text_eq k l.template_id || has_link k ls

-- the templates without a link
abbrev pub unlinked : List LinkView → List PolicyView → List PolicyView
unlinked ls [] = []
unlinked ls (t ∷ ts) = if has_link t.id ls then unlinked ls ts else t ∷ unlinked ls ts

-- the same set without the templates that have links: they decide by these
abbrev pub without_linked : PolicySetView → PolicySetView
without_linked s = record s { templates = unlinked s.links s.templates }
