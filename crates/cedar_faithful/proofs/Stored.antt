-- A store holds what its entities hold: where each attribute and tag of them is such a part, so is each that is stored.
use Rattle.std.specs.Prelude.{◌≡◌, Bool, true, false, if◌then◌else◌, List, [], ◌∷◌, Option, Some, None, option_map}
use Rattle.std.proofs.Common.{sym, subst, ap, ◌∙◌}
use Rattle.cedar_model.specs.Terms.{EntityName}
use Rattle.cedar_model.specs.Outcomes.{entity_eq}
use Rattle.cedar_model.specs.Failures.{PartialValue}
use Rattle.cedar_model.specs.Settings.{StoredEntity, part_at}
use Rattle.cedar_model.specs.Agreement.{EachStored}
use Rattle.cedar_model.proofs.Injections.{none_is_not_some, some_inj}
use Rattle.cedar_layers.specs.declared.policies.entities.Entities.{Entities}
use Rattle.cedar_layers.specs.declared.policies.entities.Entity.{Entity}
use Rattle.cedar_layers.specs.Parts.{parts_view}
use Rattle.cedar_layers.specs.Stores.{entity_name, entity_view, Held, no_entities, with_entity, with_entities, store_of}
use Rattle.cedar_layers.specs.Stores.{Standing, none_stands, standing_with, standing_with_each, last_of_each_name}
use Rattle.cedar_layers.specs.Stores.{stored_entity, store_view}
use Rattle.cedar_hierarchy.specs.Ancestry.{AreAlike, KeepsParts}
use Rattle.cedar_faithful.specs.Held.{FactsAre, EachHas}

module _ (Such : PartialValue → Type 0) where
  abbrev Facts : StoredEntity → Type 0
  Facts x = FactsAre Such x

  -- ---- a store of entities

  -- each entity that is held
  abbrev EachHeld : Held → Type 0
  EachHeld h = (n : EntityName) (x : StoredEntity) → h n ≡ Some x → Facts x

  held_by : (b : Bool) (y : StoredEntity) (o : Option StoredEntity) (x : StoredEntity) → Facts y
      → (o ≡ Some x → Facts x) → (if b then Some y else o) ≡ Some x → Facts x
  held_by true y o x h k e = subst Facts (some_inj e) h
  held_by false y o x h k e = k e

  with_each : (before : Held) (es : List Entity) → EachHeld before → EachHas Such es
      → EachHeld (with_entities before es)
  with_each before [] h k = h
  with_each before (e ∷ es) h k =
      with_each (with_entity before (entity_name e) (entity_view e)) es
      (λ n x. held_by (entity_eq n (entity_name e)) (entity_view e) (before n) x k.0 (h n x)) k.1

  pub store_holds : (es : List Entity) (is_partial : Bool) → EachHas Such es
      → EachStored Such (store_of es is_partial)
  store_holds es is_partial h e x k p at =
      with_each no_entities es (λ n y i. absurd (none_is_not_some i)) h e x at k p

  -- ---- a store of entities that are these but for their ancestors

  -- what stands under a name has such parts
  abbrev pub StandsSuch : Option Entity → Type 0
  StandsSuch None = Unit {0}
  StandsSuch (Some e) = Facts (entity_view e)

  stands_by : (b : Bool) (e : Entity) (o : Option Entity) → Facts (entity_view e) → StandsSuch o
      → StandsSuch (if b then Some e else o)
  stands_by true e o h k = h
  stands_by false e o h k = k

  pub standing_such : (before : Standing) (es : List Entity) → ((n : EntityName) → StandsSuch (before n))
      → EachHas Such es → (n : EntityName) → StandsSuch (standing_with_each before es n)
  standing_such before [] h k n = h n
  standing_such before (e ∷ es) h k n =
      standing_such (standing_with before e) es
      (λ m. stands_by (entity_eq m (entity_name e)) e (before m) k.0 (h m)) k.1 n

  -- the attributes and tags of an entity tell what it holds
  kept_such : (e f : Entity) → KeepsParts e f → Facts (entity_view e)
      → Facts (entity_view f)
  kept_such e f same h k p = (
    λ at. (h k p).0 (sym (ap (λ es. part_at k (parts_view es)) same.attributes) ∙ at),
    λ at. (h k p).1 (sym (ap (λ es. part_at k (parts_view es)) same.tags) ∙ at),
  )

  pub alike_such : (o s : Option Entity) → AreAlike o s → StandsSuch o → StandsSuch s
  alike_such None None a h = tt
  alike_such None (Some f) a h = absurd a
  alike_such (Some e) None a h = absurd a
  alike_such (Some e) (Some f) a h = kept_such e f a h

  -- the facts of what stands there
  pub facts_such : (s : Option Entity) (x : StoredEntity) → StandsSuch s → option_map entity_view s ≡ Some x
      → Facts x
  facts_such None x h e = absurd (none_is_not_some e)
  facts_such (Some f) x h e = subst Facts (some_inj e) h

  pub alike_holds : (s : Entities) (es : List Entity) → EachHas Such es
      → ((n : EntityName) → AreAlike (last_of_each_name es n) (stored_entity s n))
      → EachStored Such (store_view s)
  alike_holds s es h alike e x k p at =
      facts_such (stored_entity s e) x
      (alike_such (last_of_each_name es e) (stored_entity s e) (alike e)
      (standing_such none_stands es (λ n. tt) h e)) at k p
