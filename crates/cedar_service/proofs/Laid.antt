-- Attributes that are laid over a store.
use Rattle.std.proofs.Common.{◌≡◌, refl, sym, ap, subst, ◌∙◌, Bool, true, false, [], ◌∷◌, Option, Some, None, is_some}
use Rattle.std.specs.Prelude.{if◌then◌else◌}
use Rattle.cedar_model.specs.Terms.{Text}
use Rattle.cedar_model.specs.Outcomes.{entity_eq}
use Rattle.cedar_model.specs.Settings.{StoredEntity, known_context}
use Rattle.cedar_names.specs.declared.names.EntityUID.{EntityUID}
use Rattle.cedar_names.specs.Names.{uid_name}
use Rattle.cedar_values.specs.Sound.{whats_at}
use Rattle.cedar_layers.specs.declared.policies.entities.Entities.{Entities}
use Rattle.cedar_layers.specs.Stores.{store_view}
use Rattle.cedar_requests.specs.declared.context.Context.{Context}
use Rattle.cedar_requests.specs.declared.context.pairs.ContextPairs.{ContextPairs}
use Rattle.cedar_requests.specs.declared.context.pairs.ContextPairs.TheVariants as kinds
use Rattle.cedar_requests.specs.ContextValues.{ValueMap}
use Rattle.cedar_requests.specs.Contexts.{context_pairs, context_pairs_view, pairs_values, context_values, context_view}
use Rattle.cedar_overlay.specs.declared.error.AttributesError.{AttributesError}
use Rattle.cedar_overlay.specs.declared.error.AttributesError.TheVariants as errors
use Rattle.cedar_overlay.specs.Overlaid.{Brought, IsRefused, brought_for}
use Rattle.cedar_service.specs.declared.faults.Refusal.{Refusal}
use Rattle.cedar_service.specs.declared.faults.Refusal.TheVariants as refusals
use Rattle.cedar_service.specs.Faults.{IsToldAs, IsFaultBelow}
use Rattle.cedar_service.specs.Properties.{Attributes, IsOfAttributes, AreTaken}
use Rattle.cedar_names.specs.EqualityLaws.{entity_eq-decides}
use Rattle.cedar_service.specs.Asked.{is_known_part}

-- ---- the values of a context

same_map : (n m : ValueMap) → Some n ≡ Some m → n ≡ m
same_map n m is = cc

pairs_are : (p : ContextPairs) (m : ValueMap) → pairs_values p ≡ Some m → context_pairs_view p ≡ known_context (whats_at m.entries)
pairs_are (kinds.Values n) m is = ap (λ (k : ValueMap). known_context (whats_at k.entries)) (same_map n m is)
pairs_are (kinds.Residual r) m is = absurd (cc)

pairs_are_not : (p : ContextPairs) → pairs_values p ≡ None → is_known_part (context_pairs_view p) ≡ false
pairs_are_not (kinds.Values n) is = absurd (cc)
pairs_are_not (kinds.Residual r) is = refl

pub values_are_not : (c : Context) → context_values c ≡ None → is_known_part (context_view c) ≡ false
values_are_not c is = pairs_are_not (context_pairs c) is

pub values_are : (c : Context) (m : ValueMap) → context_values c ≡ Some m → context_view c ≡ known_context (whats_at m.entries)
values_are c m is = pairs_are (context_pairs c) m is

-- ---- an entity that is stored

pub none_there : (o : Option StoredEntity) → is_some o ≡ false → o ≡ None
none_there None h = refl
none_there (Some d) h = absurd (cc)

not_both : (o : Option StoredEntity) → is_some o ≡ true → o ≡ None → ⊥
not_both None h k = absurd (cc)
not_both (Some d) h k = absurd (cc)

abbrev found_if : Bool → Attributes → Option Attributes
found_if b m = if b then Some m else None

if_found : (b : Bool) (m : Attributes) → is_some (found_if b m) ≡ true → b ≡ true
if_found true m h = refl
if_found false m h = absurd (cc)

module _ (s : Entities) (uid : EntityUID) (m : Attributes) (wins : Bool) (path : Text) where
  abbrev stored : Type 0
  stored = is_some ((store_view s).entity (uid_name uid)) ≡ true

  -- what is refused is one that is taken
  pub are_taken : (gs : Brought) → gs ≡ (uid, m) ∷ [] → stored → (e : AttributesError)
      → IsRefused (store_view s) gs wins e → (r : Refusal) → IsToldAs (λ _. IsOfAttributes e) r
      → IsToldAs (IsFaultBelow path) r → IsToldAs (AreTaken wins s (uid_name uid) m path) r
  are_taken gs is there e h refusals.Memory of told = tt
  are_taken gs is there (errors.Memory x) h (refusals.Told t) of told = absurd of
  are_taken gs is there (errors.NotStored u) h (refusals.Told t) of told =
      let found : is_some (brought_for ((uid, m) ∷ []) (uid_name u)) ≡ true =
      subst (λ (x : Brought). is_some (brought_for x (uid_name u)) ≡ true) is h.0 in
      let same : uid_name u ≡ uid_name uid =
      (entity_eq-decides (uid_name u) (uid_name uid)).0 (if_found (entity_eq (uid_name u) (uid_name uid)) m found) in
      absurd (not_both ((store_view s).entity (uid_name uid)) there (ap (store_view s).entity (sym same) ∙ h.1))
  are_taken gs is there (errors.HasAttribute u k) h (refusals.Told t) of told = record {
    uid = uid;
    name = refl;
    error = errors.HasAttribute u k;
    taken = tt;
    refused = subst (λ (x : Brought). IsRefused (store_view s) x wins (errors.HasAttribute u k)) is h;
    told = told;
  }
