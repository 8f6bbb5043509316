-- Parents as they are listed while a store is made.
use Rattle.std.specs.Prelude.{◌≡◌, if◌then◌else◌, List, [], ◌∷◌, map, Option, None, Some, IfSome}
use Rattle.std.specs.Map.{lookup}
use Rattle.std.specs.declared.alloc.Global.{Global}
use Rattle.std.specs.declared.vec.Vec.{Vec}
use Rattle.std.specs.BTreeSet.{BTreeSet}
use Rattle.cedar_model.specs.Terms.{EntityName}
use Rattle.cedar_model.specs.Outcomes.{entity_eq}
use Rattle.cedar_model.specs.Settings.{is_among}
use Rattle.cedar_names.specs.declared.names.EntityUID.{EntityUID}
use Rattle.cedar_names.specs.Names.{uid_name}
use Rattle.cedar_layers.specs.declared.policies.entities.Entity.{Entity}
use Rattle.cedar_layers.specs.Stores.{entity_name, entity_ancestors}
use Rattle.cedar_hierarchy.specs.Paths.{Parentage, AreLedTo}

-- the names of a list of uids, if there is one
abbrev pub names_or_none : Option (Vec EntityUID Global) → List EntityName
names_or_none None = []
names_or_none (Some v) = map uid_name v.items

-- the parents that the entries of a map list
abbrev pub listed_parents : List (EntityUID × Vec EntityUID Global) → Parentage
listed_parents es n = names_or_none (lookup (λ (u : EntityUID). entity_eq n (uid_name u)) es)

-- the same, but of this entity those that it records
abbrev pub parents_with : Parentage → Entity → Parentage
parents_with before e n = if entity_eq n (entity_name e) then map uid_name (entity_ancestors e) else before n

-- the same, but with these entities, of which a later one stays
abbrev pub parents_with_each : Parentage → List Entity → Parentage
parents_with_each before [] = before
parents_with_each before (e ∷ es) = parents_with_each (parents_with before e) es

-- the same names, in whatever order
abbrev pub HoldsTheSame : List EntityUID → List EntityUID → Type 0
HoldsTheSame us vs = (n : EntityName) → is_among n (map uid_name us) ≡ is_among n (map uid_name vs)

-- each set of a map has all that parents lead to from the entity that it stands under
abbrev pub KnowsAncestors : Parentage → List (EntityUID × BTreeSet EntityUID) → Type 0
KnowsAncestors parents es =
    (n : EntityName) → IfSome (lookup (λ (u : EntityUID). entity_eq n (uid_name u)) es) (λ s. AreLedTo parents n (map uid_name s.keys))
