-- What holds of answers and refusals, handed up.
use Rattle.std.proofs.Common.{Result, Ok, Err}
use Rattle.std.specs.Prelude.{IfOk, IfErr}
use Rattle.cedar_cli.specs.declared.refusal.Refusal.{Refusal}
use Rattle.cedar_cli.specs.declared.refusal.Refusal.TheVariants as refusals
use Rattle.cedar_cli.specs.Reasons.{IsToldFor}

-- what holds of each answer holds of the one that is given
pub of_ok : {A E : Type 0} (P Q : A → Type 0) → ((a : A) → P a → Q a) → (r : Result A E) → IfOk r P → IfOk r Q
of_ok P Q f (Ok a) h = f a h
of_ok P Q f (Err e) h = tt

because : (P Q : Type 0) → (P → Q) → (r : Refusal) → IsToldFor P r → IsToldFor Q r
because P Q f refusals.Memory h = tt
because P Q f (refusals.Told lines) h = f h

-- and a refusal for one reason is one for another that it leads to
pub of_err : {A : Type 0} (P Q : Type 0) → (P → Q) → (r : Result A Refusal) → IfErr r (IsToldFor P) → IfErr r (IsToldFor Q)
of_err P Q f (Ok a) h = tt
of_err P Q f (Err e) h = because P Q f e h

-- two facts of each answer
pub both_ok : {A E : Type 0} (P Q R : A → Type 0) → ((a : A) → P a → Q a → R a) → (r : Result A E) → IfOk r P → IfOk r Q → IfOk r R
both_ok P Q R f (Ok a) p q = f a p q
both_ok P Q R f (Err e) p q = tt

-- what is told is told for a reason that there is
pub told : (P : Type 0) → P → (r : Refusal) → IsToldFor P r
told P h refusals.Memory = tt
told P h (refusals.Told lines) = h
