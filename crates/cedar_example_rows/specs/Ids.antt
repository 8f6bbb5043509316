-- The ids of the built-in policies.
use Rattle.std.specs.Prelude.{List, [], ◌∷◌, map, codes}
use Rattle.cedar_model.specs.Terms.{Text}
use Rattle.cedar_layers.specs.declared.policies.policy.Policy.{Policy}
use Rattle.cedar_layers.specs.Policies.{policy_view, policy_ids}

-- the ids of policies, in order
abbrev pub ids_of : List Policy → List Text
ids_of ps = policy_ids (map policy_view ps)

abbrev pub id_one : List Text
id_one = codes "1" ∷ []

abbrev pub ids_to_two : List Text
ids_to_two = codes "1" ∷ codes "2" ∷ []

abbrev pub ids_to_three : List Text
ids_to_three = codes "1" ∷ codes "2" ∷ codes "3" ∷ []

abbrev pub ids_to_four : List Text
ids_to_four = codes "1" ∷ codes "2" ∷ codes "3" ∷ codes "4" ∷ []

abbrev pub ids_from_zero : List Text
ids_from_zero = codes "0" ∷ codes "1" ∷ []

abbrev pub chain_ids : List Text
chain_ids = codes "policy0" ∷ codes "policy1" ∷ []
