-- What entities and maps of values hold: no extension value, or faithful values; and which value is answered.
use Rattle.std.specs.Prelude.{◌≡◌, ℕ, List, [], ◌∷◌}
use Rattle.std.specs.declared.alloc.Global.{Global}
use Rattle.std.specs.declared.rc.RcStr.{RcStr}
use Rattle.cedar_model.specs.Terms.{Text, Term}
use Rattle.cedar_model.specs.Values.{Represented}
use Rattle.cedar_model.specs.World.{Extensions, Functions}
use Rattle.cedar_model.specs.Failures.{PartialValue, value, answers}
use Rattle.cedar_model.specs.Settings.{StoredEntity, Setting}
use Rattle.cedar_model.specs.Rules.{StoredCalls}
use Rattle.cedar_model.specs.Agreement.{IsFaithfulPart}
use Rattle.cedar_laws.specs.Faithful.{PartHoldsNoExtensionValue}
use Rattle.cedar_values.specs.Sound.{Placed}
use Rattle.cedar_layers.specs.declared.policies.entities.Entity.{Entity}
use Rattle.cedar_restricted.specs.Evaluations.{IsBare, IsValueWithin}
pub use Rattle.cedar_json_reader.specs.Held.{FactsAre, EachHas}

-- ---- entities

-- no attribute and no tag of an entity holds an extension value
abbrev pub FactsHoldNoExtensionValue : StoredEntity → Type 0
FactsHoldNoExtensionValue x = FactsAre PartHoldsNoExtensionValue x

-- none of these entities
abbrev pub EachHoldsNoExtensionValue : List Entity → Type 0
EachHoldsNoExtensionValue es = EachHas PartHoldsNoExtensionValue es

-- the values of the attributes and tags of each of these entities are faithful
abbrev pub EachIsFaithful : Extensions → Functions → List Entity → Type 0
EachIsFaithful X ans es = EachHas (IsFaithfulPart X ans) es

-- ---- values

-- each value of a map is such a value
abbrev pub MapsEachTo : (Represented → Type 0) → List (RcStr Global × Placed) → Type 0
MapsEachTo P [] = Unit {0}
MapsEachTo P (e ∷ es) = P e.1.what × MapsEachTo P es

-- where a value is asked for, with these extensions and so many levels the expression answers this one
abbrev pub IsValueOf : Extensions → StoredCalls → ℕ → Term → Represented → Type 0
IsValueOf x calls n t v = (s : Setting) → IsBare x s → IsValueWithin s calls n t (answers (value v))
