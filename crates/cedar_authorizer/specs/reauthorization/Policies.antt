-- The policies that are decided again.
use Rattle.std.specs.Prelude.{List, map, All, Contains, Option, Some, None, Result, Ok, Err}
use Rattle.cedar_model.specs.Terms.{Text}
use Rattle.cedar_model.specs.Policies as model
use Rattle.cedar_model.specs.Refusals.{Refusal, id_comes_again, first_repeated}
use Rattle.cedar_layers.specs.declared.policies.policy.Policy.{Policy}
use Rattle.cedar_authorizer.specs.responses.Rows.{Located}
use Rattle.cedar_authorizer.specs.responses.Readers.{IsCarriedOn}

abbrev pub unless_repeated : Option Text → List model.Policy → Result (List model.Policy) Refusal
unless_repeated None ps = Ok ps
unless_repeated (Some id) ps = Err (id_comes_again id)

-- these policies, or the refusal of the first duplicate id
abbrev pub all_once : List model.Policy → Result (List model.Policy) Refusal
all_once ps = unless_repeated (first_repeated (map (λ p. p.id) ps)) ps

-- one of these rows is carried on as the policy, at its clause's location
pub record IsCarriedFrom (rows : List Located) (p : Policy) : Type 0 where
  pub row : Located
  pub among : Contains rows row
  pub carried : IsCarriedOn row p

abbrev pub AreCarriedFrom : List Located → List Policy → Type 0
AreCarriedFrom rows ps = All (IsCarriedFrom rows) ps
