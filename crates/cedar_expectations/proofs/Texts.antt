-- The names of policies, one by one.
use Rattle.std.proofs.Common.{◌≡◌, refl, ap, ◌∙◌, Bool, true, false, cond, List, ◌∷◌, Result, Ok, Err, IfOk}
use Rattle.cedar_model.specs.Terms.{Text}
use Rattle.cedar_model.specs.Outcomes.{text_eq}
use Rattle.cedar_layers.specs.Policies.{PolicyView}
use Rattle.cedar_expectations.specs.Named.{policy_name, name_under}

-- what holds of each answer holds of the one that is given
pub of_ok : {A E : Type 0} (P Q : A → Type 0) → ((a : A) → P a → Q a) → (r : Result A E) → IfOk r P → IfOk r Q
of_ok P Q f (Ok a) h = f a h
of_ok P Q f (Err e) h = tt

cond_true : {A : Type 0} (b : Bool) (x y : A) → b ≡ true → cond b x y ≡ x
cond_true true x y h = refl
cond_true false x y h = absurd (cc)

cond_false : {A : Type 0} (b : Bool) (x y : A) → b ≡ false → cond b x y ≡ y
cond_false true x y h = absurd (cc)
cond_false false x y h = refl

module _ (id : Text) (p : PolicyView) (left rest : List PolicyView) (next : left ≡ p ∷ rest) where
  -- the first policy that is left has this id
  pub name_here : text_eq p.id id ≡ true → name_under id left ≡ policy_name p
  name_here met = ap (name_under id) next ∙ cond_true (text_eq p.id id) (policy_name p) (name_under id rest) met

  -- or it has another
  pub name_not_here : text_eq p.id id ≡ false → name_under id left ≡ name_under id rest
  name_not_here met = ap (name_under id) next ∙ cond_false (text_eq p.id id) (policy_name p) (name_under id rest) met
