-- What follows from what a call answers.
use Rattle.std.proofs.Common.{◌≡◌, ◌∙◌, List, ℕ, Result, Ok, Err, IfOk, Option, Some, None}
use Rattle.std.specs.Prelude.{IfSome}

-- what holds of each answer holds of the one that is given
pub of_ok : {A E : Type 0} (P Q : A → Type 0) → ((a : A) → P a → Q a) → (r : Result A E) → IfOk r P → IfOk r Q
of_ok P Q f (Ok a) h = f a h
of_ok P Q f (Err e) h = tt

pub of_some : {A : Type 0} (P Q : A → Type 0) → ((a : A) → P a → Q a) → (o : Option A) → IfSome o P → IfSome o Q
of_some P Q f (Some a) h = f a h
of_some P Q f None h = tt

-- a text that is this one is the same one
pub as_text : {A E : Type 0} (f : A → List ℕ) (t u : List ℕ) → t ≡ u → (r : Result A E) → IfOk r (λ a. f a ≡ t)
    → IfOk r (λ a. f a ≡ u)
as_text f t u e (Ok a) h = h ∙ e
as_text f t u e (Err x) h = tt
