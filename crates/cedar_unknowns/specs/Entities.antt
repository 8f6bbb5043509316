-- Which unknowns stand for entities that a partial store lacks.
use Rattle.std.specs.Prelude.{cond, List, [], ◌∷◌, Option, Some, None}
use Rattle.cedar_model.specs.Terms.{EntityName, entity_type}
use Rattle.cedar_model.specs.Settings.{printed_entity}
use Rattle.cedar_model.specs.Printing.{read_entity}
use Rattle.cedar_unknowns.specs.Occurrences.{Asked, asked_eq}

-- the unknown that stands for an entity which a partial store lacks: named by the entity's text, of the entity's type
abbrev pub asked_for : EntityName → Asked
asked_for e = (printed_entity e, Some (entity_type e.type_name))

-- the entity, if the unknown stands for it
abbrev pub entity_if_for : Asked → Option EntityName → Option EntityName
entity_if_for a None = None
entity_if_for a (Some e) = cond (asked_eq a (asked_for e)) (Some e) None

-- the entity that an unknown stands for, if it stands for one
abbrev pub entity_asked : Asked → Option EntityName
entity_asked a = entity_if_for a (read_entity a.0)

abbrev pub entity_before : Option EntityName → List EntityName → List EntityName
entity_before None es = es
entity_before (Some e) es = e ∷ es

-- the entities that unknowns stand for, in order
abbrev pub entities_asked : List Asked → List EntityName
entities_asked [] = []
entities_asked (a ∷ others) = entity_before (entity_asked a) (entities_asked others)

abbrev pub asked_unless : Option EntityName → Asked → List Asked → List Asked
asked_unless None a others = a ∷ others
asked_unless (Some e) a others = others

-- the unknowns that stand for no entity, in order
abbrev pub others_asked : List Asked → List Asked
others_asked [] = []
others_asked (a ∷ others) = asked_unless (entity_asked a) a (others_asked others)
