-- Policies, and what a set of policies decides. The reasons are the policies that determine the decision. In Cedar's
-- documentation: the page on authorization (deny by default, a forbid overrides, an erring policy is skipped).
use Rattle.std.specs.Prelude.{Bool, true, false, cond, ◌||◌, List, [], ◌∷◌, map}
use Rattle.cedar_model.specs.Terms.{Text, bool_literal, Term}
use Rattle.cedar_model.specs.Values.{plain}
use Rattle.cedar_model.specs.Outcomes.{Outcome, gives}
use Rattle.cedar_model.specs.World.{World, Slots, Extensions, Functions}
use Rattle.cedar_model.specs.Meaning.{meaning}

pub data Effect : Type 0 where
  permit : Effect
  forbid : Effect

-- a policy: its annotations are texts under their keys, which decide nothing
pub record Policy : Type 0 where
  pub id : Text
  pub effect : Effect
  pub annotations : List (Text × Text)
  pub condition : Term
  pub slots : Slots

-- how a policy's condition comes out: true, false, or an error
pub data Verdict : Type 0 where
  satisfied : Verdict
  unsatisfied : Verdict
  erring : Verdict

-- a condition that is no bool errs
unfoldable pub verdict : Outcome → Verdict
verdict (gives (plain (bool_literal true))) = satisfied
verdict (gives (plain (bool_literal false))) = unsatisfied
verdict o = erring

-- a policy with its verdict
pub record Judged : Type 0 where
  pub id : Text
  pub effect : Effect
  pub verdict_of : Verdict

-- the policy under its own slots in a world
abbrev pub judged : Extensions → Functions → World → Policy → Judged
judged X ans w p =
    record { id = p.id; effect = p.effect; verdict_of = verdict (meaning X ans w p.slots p.condition) }

pub data Decision : Type 0 where
  allow : Decision
  deny : Decision

-- whether the policy is satisfied and has the effect
unfoldable pub is_satisfied_by : Effect → Verdict → Effect → Bool
is_satisfied_by permit satisfied permit = true
is_satisfied_by forbid satisfied forbid = true
is_satisfied_by permit satisfied forbid = false
is_satisfied_by forbid satisfied permit = false
is_satisfied_by effect unsatisfied other = false
is_satisfied_by effect erring other = false

abbrev pub is_satisfied : Effect → Judged → Bool
is_satisfied effect p = is_satisfied_by effect p.verdict_of p.effect

unfoldable pub some_satisfied : Effect → List Judged → Bool
some_satisfied effect [] = false
some_satisfied effect (p ∷ ps) = is_satisfied effect p || some_satisfied effect ps

-- the ids of the satisfied policies of an effect
unfoldable pub satisfied_ids : Effect → List Judged → List Text
satisfied_ids effect [] = []
satisfied_ids effect (p ∷ ps) =
    cond (is_satisfied effect p) (p.id ∷ satisfied_ids effect ps) (satisfied_ids effect ps)

-- Allow where some permit is satisfied and no forbid is, else Deny
abbrev pub decision : List Judged → Decision
decision ps = cond (some_satisfied forbid ps) deny (cond (some_satisfied permit ps) allow deny)

-- the satisfied forbids or, with none, the satisfied permits
abbrev pub reasons : List Judged → List Text
reasons ps = cond (some_satisfied forbid ps) (satisfied_ids forbid ps) (satisfied_ids permit ps)

-- of policies in a world
abbrev pub judge_each : Extensions → Functions → World → List Policy → List Judged
judge_each X ans w ps = map (judged X ans w) ps

-- ---- modes

-- how the errors of policies are handled: an erring policy is skipped, or an erring forbid counts as a satisfied one
pub data ErrorHandling : Type 0 where
  skip : ErrorHandling
  forbid_on_error : ErrorHandling

unfoldable pub counted_verdict : ErrorHandling → Effect → Verdict → Verdict
counted_verdict skip effect v = v
counted_verdict forbid_on_error permit v = v
counted_verdict forbid_on_error forbid satisfied = satisfied
counted_verdict forbid_on_error forbid unsatisfied = unsatisfied
counted_verdict forbid_on_error forbid erring = satisfied

-- the policy with the verdict that counts
abbrev pub counted : ErrorHandling → Judged → Judged
counted mode p =
    record { id = p.id; effect = p.effect; verdict_of = counted_verdict mode p.effect p.verdict_of }

abbrev pub counting : ErrorHandling → List Judged → List Judged
counting mode ps = map (counted mode) ps

-- of policies in a world and a mode
abbrev pub counted_each : ErrorHandling → Extensions → Functions → World → List Policy → List Judged
counted_each mode X ans w ps = counting mode (judge_each X ans w ps)
