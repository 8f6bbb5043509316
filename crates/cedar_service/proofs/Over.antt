-- What is brought beside what is stored, from the text on.
use Rattle.std.proofs.Common.{◌≡◌, refl, sym, subst, true, false, ◌==◌, length, arith, List, [], ◌∷◌, Option, None, Some, codes}
use Rattle.std.proofs.lemmas.Bool.Decides.{nat_tests}
use Rattle.std.specs.Prelude.{IsSomeAnd}
use Rattle.json.specs.Find.{get}
use Rattle.json.specs.Json.{Json, document}
use Rattle.json.specs.Strict.{HasUniqueKeys}
use Rattle.cedar_model.specs.Terms.{Text}
use Rattle.cedar_model.specs.World as world
use Rattle.cedar_model.specs.Rules.{StoredCalls}
use Rattle.cedar_layers.specs.declared.policies.entities.Entities.{Entities}
use Rattle.cedar_layers.specs.declared.policies.entities.Entity.{Entity}
use Rattle.cedar_layers.specs.Stores.{stored_entity}
use Rattle.cedar_overlay.specs.declared.entities_error.EntitiesError.{EntitiesError}
use Rattle.cedar_overlay.specs.Added.{IsRefusedOf}
use Rattle.cedar_json_reader.specs.declared.errors.JsonError.{JsonError}
use Rattle.cedar_json_reader.specs.Evaluated.{AreEntitiesOf}
use Rattle.cedar_json_reader.specs.NothingUnknown.{AreKnownEntities, IsKnownEntitiesError}
use Rattle.cedar_json_reader.specs.JsonTexts.{IsUnread, SaysSo, IsTextError}
use Rattle.cedar_json_reader.specs.SaidEntities.{entities_said}
use Rattle.cedar_service.specs.declared.faults.Refusal.{Refusal}
use Rattle.cedar_service.specs.declared.faults.Refusal.TheVariants as refusals
use Rattle.cedar_service.specs.Brought.{IsBroughtOver, IsBroughtBy, IsBroughtFor, IsUnbroughtBy, IsUnbroughtFor, IsExcess, IsExcessBy, no_document, of_document}
use Rattle.cedar_service.specs.Brought.{IsBroughtAs, IsUnbroughtAs, none_said, IsOver, HasAdded, IsNotOver, IsOfEntities}
use Rattle.cedar_service.specs.Documents.{IsReadAs, IsTextFor}
use Rattle.cedar_service.specs.Faults.{IsToldAs, IsFaultBelow, IsOfJson}
use Rattle.cedar_service.specs.Levels.{levels}
use Rattle.cedar_service.specs.Ways.{Ways}

-- what is so of the value that there is is so
pub some_and : {A : Type 0} (P : A → Type 0) (o : Option A) (a : A) → o ≡ Some a → P a → IsSomeAnd o P
some_and P o a is h = subst (λ x. IsSomeAnd x P) (sym is) h

pub of_some : (P : Json → Type 0) (o : Option Json) (i : Json) → o ≡ Some i → IsSomeAnd o (λ k. HasUniqueKeys k × P k) → P i
of_some P o i same h = (subst (λ x. IsSomeAnd x (λ k. HasUniqueKeys k × P k)) same h).1

module _ (X : world.Extensions) (calls : StoredCalls) (w : Ways) (s : Entities) where
  pub brought_of_document : (text : Text) (j : Json) (made : Entities) → IsReadAs text j
      → IsBroughtFor w.entities w.bounds X calls s (get (codes "entities") j) made → IsBroughtBy X calls w s text made
  brought_of_document text j made is h = some_and _ (document text) j is.is_json (is.unique, h)

  pub unbrought_of_document : (text : Text) (j : Json) (t : Text) → IsReadAs text j
      → IsUnbroughtFor w.entities w.bounds X calls s (get (codes "entities") j) t → IsUnbroughtBy X calls w s text t
  unbrought_of_document text j t is h = of_document (some_and _ (document text) j is.is_json h)

  pub unread_document : (text : Text) (e : JsonError) → IsUnread text e → (r : Refusal)
      → IsToldAs (λ _. IsOfJson e) r → IsToldAs (IsFaultBelow (codes "$")) r
      → IsToldAs (IsUnbroughtBy X calls w s text) r
  unread_document text e is refusals.Memory of told = tt
  unread_document text e is (refusals.Told t) of told = no_document e is of told

-- too much of the JSON is too much of its text
pub excess_of_document : (w : Ways) (text : Text) (j : Json) (t : Text) → IsReadAs text j
    → IsExcess w.entities w.bounds (get (codes "entities") j) t → IsExcessBy w text t
excess_of_document w text j t is h = some_and _ (document text) j is.is_json h

module _ (X : world.Extensions) (calls : StoredCalls) (s : Entities) where
  -- what a text says of entities, its JSON says
  pub brought_as_json : (text : Text) (j : Json) (made : Entities) → IsTextFor j text → IsBroughtAs X calls s text made
      → IsBroughtOver X calls s (Some j) made
  brought_as_json text j made is (es, said, over) = (es, of_some (λ k. AreEntitiesOf X calls levels (entities_said k) es × AreKnownEntities es) (document text) j is said, over)

  -- and they are known
  pub said_known : (text : Text) (es : List Entity) → SaysSo text (λ j. AreEntitiesOf X calls levels (entities_said j) es)
      → AreKnownEntities es → SaysSo text (λ j. AreEntitiesOf X calls levels (entities_said j) es × AreKnownEntities es)
  said_known text es said known = in_document (document text) said where
    in_document : (o : Option Json) → IsSomeAnd o (λ j. HasUniqueKeys j × AreEntitiesOf X calls levels (entities_said j) es)
        → IsSomeAnd o (λ j. HasUniqueKeys j × (AreEntitiesOf X calls levels (entities_said j) es × AreKnownEntities es))
    in_document None h = absurd h
    in_document (Some j) h = (h.0, (h.1, known))

  pub unread_entities : (text : Text) (e : JsonError)
      → IsTextError text (λ j e. IsKnownEntitiesError X calls levels (entities_said j) e) e → (r : Refusal)
      → IsToldAs (λ _. IsOfJson e) r → IsToldAs (IsFaultBelow (codes "$.entities")) r
      → IsToldAs (IsUnbroughtAs X calls s text) r
  unread_entities text e is refusals.Memory of told = tt
  unread_entities text e is (refusals.Told t) of told =
      none_said (record { error = e; of_json = of; refused = is; told = told })

-- ---- the store of both

pub has_added : (s : Entities) (es : List Entity) (made : Entities) → (length es == 0) ≡ false → HasAdded s es made
    → IsOver s es made
has_added s [] made h k = absurd (cc)
has_added s (e ∷ es) made h k = k

pub over_none : (s : Entities) (es : List Entity) → (length es == 0) ≡ true → IsOver s es s
over_none s [] h = refl
over_none s (e ∷ es) h = absurd (grind (arith, nat_tests))

pub not_over : (s : Entities) (es : List Entity) (e : EntitiesError) → IsRefusedOf (stored_entity s) es e → (r : Refusal)
    → IsToldAs (λ _. IsOfEntities e) r → IsToldAs (IsFaultBelow (codes "$.entities")) r → IsToldAs (IsNotOver s es) r
not_over s es e is refusals.Memory of told = tt
not_over s es e is (refusals.Told t) of told = record { error = e; of_entities = of; refused = is; told = told }
