-- What a map keeps of the pairs that it is made of.
use Rattle.std.specs.Prelude.{◌≡◌, Bool, List, [], Option}
use Rattle.std.specs.Iterator.{Drains}
use Rattle.indexmap.specs.IndexMap.{insert_all}
use Rattle.cedar_model.specs.Outcomes.{text_eq}
use Rattle.cedar_layers.specs.declared.policies.policy.PolicyID.{PolicyID}
use Rattle.cedar_layers.specs.Policies.{policy_id_text}

-- whether two ids have one text
abbrev pub is_same_id : PolicyID → PolicyID → Bool
is_same_id i j = text_eq (policy_id_text i) (policy_id_text j)

-- a duplicate id keeps its first place and takes its last value
abbrev pub kept : {V : Type 0} → List (PolicyID × V) → List (PolicyID × V)
kept pairs = insert_all is_same_id [] pairs

-- the entries are what is kept of all that an iterator gives
abbrev pub Keeps : {S V : Type 0} → (S → Option (PolicyID × V) → S → Type 0) → S → List (PolicyID × V) → Type 0
Keeps {V = V} steps it entries = (pairs : List (PolicyID × V)) × Drains steps it pairs × (entries ≡ kept pairs)

-- the items are all that an iterator gives, in order
abbrev pub GivesItems : {S A : Type 0} → (S → Option A → S → Type 0) → S → List A → Type 0
GivesItems {A = A} steps it items = (given : List A) × Drains steps it given × (items ≡ given)
