-- Where parents lead.
use Rattle.std.specs.Prelude.{◌≡◌, ◌↔◌, true, List}
use Rattle.cedar_model.specs.Terms.{EntityName}
use Rattle.cedar_model.specs.Settings.{is_among}

-- the parents of each entity
abbrev pub Parentage : Type 0
Parentage = EntityName → List EntityName

-- one or more steps of parents lead from the first to the second
pub data Leads (parents : Parentage) : EntityName → EntityName → Type 0 where
  in_one_step : (a b : EntityName) → is_among b (parents a) ≡ true → Leads parents a b
  by_a_parent : (a p b : EntityName) → is_among p (parents a) ≡ true → Leads parents p b → Leads parents a b

-- these names are those that parents lead to
abbrev pub AreLedTo : Parentage → EntityName → List EntityName → Type 0
AreLedTo parents a names = (n : EntityName) → (is_among n names ≡ true) ↔ Leads parents a n

-- these names are some of those that parents lead to, with all that parents lead to from each of them
pub record ArePartOf (parents : Parentage) (a : EntityName) (names : List EntityName) : Type 0 where
  pub led : (n : EntityName) → is_among n names ≡ true → Leads parents a n
  pub whole : (m n : EntityName) → is_among m names ≡ true → is_among n (parents m) ≡ true → is_among n names ≡ true
