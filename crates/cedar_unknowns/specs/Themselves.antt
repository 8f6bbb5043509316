-- The entities that a partial store lacked, each as the value of the unknown that stands for it.
use Rattle.std.specs.Prelude.{◌≡◌, true, cond, List, [], ◌∷◌, Some, None}
use Rattle.cedar_model.specs.Terms.{EntityName, entity_literal}
use Rattle.cedar_model.specs.Values.{plain, Represented, plain_represented}
use Rattle.cedar_model.specs.Outcomes.{text_eq}
use Rattle.cedar_model.specs.World.{World, Extensions, Functions}
use Rattle.cedar_model.specs.Settings.{Store, printed_entity, is_among, not_known, look_up}
use Rattle.cedar_model.specs.Agreement.{AgreesWithStore}
use Rattle.cedar_model.specs.Chains.{Mapping}
use Rattle.cedar_model.specs.Headline.{CompletesMap}

-- the entity, as a value
abbrev pub itself : EntityName → Represented
itself e = plain_represented (entity_literal e)

-- each of these entities as the value of the unknown that its text names, and no other value
abbrev pub entity_values : List EntityName → Mapping
entity_values [] n = None
entity_values (e ∷ es) n = cond (text_eq n (printed_entity e)) (Some (itself e)) (entity_values es n)

-- in this world the unknown that stands for the entity is that entity
abbrev pub IsItself : World → EntityName → Type 0
IsItself w e = w.sigma (printed_entity e) ≡ plain (entity_literal e)

-- of each of these
abbrev pub AreThemselves : World → List EntityName → Type 0
AreThemselves w es = (e : EntityName) → is_among e es ≡ true → IsItself w e

-- each such world completes the map: it agrees with it, and its values are faithful
abbrev pub IsCompletedByThem : List EntityName → Mapping → Type 0
IsCompletedByThem es m = (X : Extensions) (ans : Functions) (w : World) → AreThemselves w es → CompletesMap X ans w m

-- each world that agrees with a store which lacks the entity, and does not know it, is such a world
abbrev pub MissingIsItself : Type 0
MissingIsItself =
    (X : Extensions) (ans : Functions) (w : World) (store : Store) (e : EntityName) → look_up store e ≡ not_known
    → AgreesWithStore X ans w store → IsItself w e
