-- Where the parents of entities lead, and what a store closed under "parent of" has.
use Rattle.std.specs.Prelude.{◌≡◌, ⊤, List, [], map, Option, None, Some}
use Rattle.cedar_model.specs.Terms.{EntityName}
use Rattle.cedar_names.specs.Names.{uid_name}
use Rattle.cedar_layers.specs.declared.policies.entities.Entity.{Entity}
use Rattle.cedar_layers.specs.Stores.{entity_uid, entity_attributes, entity_tags, entity_ancestors, entity_name}
use Rattle.cedar_layers.specs.Stores.{last_of_each_name}
use Rattle.cedar_hierarchy.specs.Paths.{Parentage, Leads, AreLedTo}
use Rattle.cedar_hierarchy.specs.declared.error.ClosureError.{ClosureError}
use Rattle.cedar_hierarchy.specs.declared.error.ClosureError.TheVariants.{Memory, Cycle}

-- the ancestors that an entity records; where there is no entity, none
abbrev pub recorded : Option Entity → List EntityName
recorded None = []
recorded (Some e) = map uid_name (entity_ancestors e)

-- the parents that these entities record, of those of one name the last
abbrev pub parents_of : List Entity → Parentage
parents_of es n = recorded (last_of_each_name es n)

-- the uid, the attributes and the tags are the same, whole
pub record KeepsParts (e f : Entity) : Type 0 where
  pub uid : entity_uid f ≡ entity_uid e
  pub attributes : entity_attributes f ≡ entity_attributes e
  pub tags : entity_tags f ≡ entity_tags e

-- the same entity but for its ancestors, or none both times
abbrev pub AreAlike : Option Entity → Option Entity → Type 0
AreAlike None None = ⊤
AreAlike None (Some f) = ⊥
AreAlike (Some e) None = ⊥
AreAlike (Some e) (Some f) = KeepsParts e f

-- the second is the first with all ancestors that parents lead to, and it is none of them
pub record IsClosed (parents : Parentage) (e f : Entity) : Type 0 where
  pub parts : KeepsParts e f
  pub ancestors : AreLedTo parents (entity_name e) (map uid_name (entity_ancestors f))
  pub acyclic : ¬ Leads parents (entity_name e) (entity_name e)

-- a cycle that is named is one
abbrev pub NamesACycle : Parentage → ClosureError → Type 0
NamesACycle parents (Memory e) = ⊤
NamesACycle parents (Cycle u) = Leads parents (uid_name u) (uid_name u)
