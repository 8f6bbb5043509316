-- Entities sorted by whether their recorded ancestors are all among some names.
use Rattle.std.specs.Prelude.{Bool, true, false, ◌&&◌, ◌||◌, if◌then◌else◌, List, [], ◌∷◌, ◌++◌, map}
use Rattle.cedar_model.specs.Terms.{EntityName}
use Rattle.cedar_model.specs.Outcomes.{entity_eq}
use Rattle.cedar_model.specs.Settings.{is_among}
use Rattle.cedar_names.specs.declared.names.EntityUID.{EntityUID}
use Rattle.cedar_names.specs.Names.{uid_name}
use Rattle.cedar_layers.specs.declared.policies.entities.Entity.{Entity}
use Rattle.cedar_layers.specs.Stores.{entity_name, entity_ancestors}

-- a test on names
abbrev pub NameTest : Type 0
NameTest = EntityName → Bool

abbrev pub no_name : NameTest
no_name n = false

-- the names of these uids
abbrev pub named_in : List EntityUID → NameTest
named_in us n = is_among n (map uid_name us)

-- the names of these entities
abbrev pub named_of : List Entity → NameTest
named_of es n = is_among n (map entity_name es)

-- those names, and this one
abbrev pub with_name : NameTest → EntityName → NameTest
with_name before m n = before n || entity_eq n m

-- those names, and those of these entities
abbrev pub with_name_of_each : NameTest → List Entity → NameTest
with_name_of_each before [] = before
with_name_of_each before (e ∷ es) = with_name_of_each (with_name before (entity_name e)) es

-- each of these names passes the test
abbrev pub are_all_named : NameTest → List EntityName → Bool
are_all_named there [] = true
are_all_named there (n ∷ ns) = there n && are_all_named there ns

-- each recorded ancestor passes the test
abbrev pub has_all_ancestors : NameTest → Entity → Bool
has_all_ancestors there e = are_all_named there (map uid_name (entity_ancestors e))

-- those of which that holds, behind others
abbrev pub wholes : NameTest → List Entity → List Entity → List Entity
wholes there before [] = before
wholes there before (e ∷ es) = wholes there (if has_all_ancestors there e then before ++ e ∷ [] else before) es

-- the names of those of which it doesn't, beside others
abbrev pub names_of_others : NameTest → NameTest → List Entity → NameTest
names_of_others there before [] = before
names_of_others there before (e ∷ es) =
    names_of_others there (if has_all_ancestors there e then before else with_name before (entity_name e)) es
