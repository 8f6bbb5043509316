-- How what is answered is composed of what the calls below answer.
use Rattle.std.proofs.Common.{Result, Ok, Err, IfOk}
use Rattle.std.specs.Prelude.{IfErr}
use Rattle.cedar_model.specs.Terms.{Text}
use Rattle.cedar_service.specs.declared.faults.Refusal.{Refusal}
use Rattle.cedar_service.specs.declared.faults.Refusal.TheVariants as refusals
use Rattle.cedar_service.specs.Faults.{IsToldAs}

-- what holds of each answer holds of the one that is given
pub of_ok : {A E : Type 0} (P Q : A → Type 0) → ((a : A) → P a → Q a) → (r : Result A E) → IfOk r P → IfOk r Q
of_ok P Q f (Ok a) h = f a h
of_ok P Q f (Err e) h = tt

-- and so of what holds in two ways
pub of_both : {A E : Type 0} (P Q R : A → Type 0) → ((a : A) → P a → Q a → R a) → (r : Result A E) → IfOk r P → IfOk r Q
    → IfOk r R
of_both P Q R f (Ok a) h k = f a h k
of_both P Q R f (Err e) h k = tt

-- and in three
pub of_three : {A E : Type 0} (P Q R S : A → Type 0) → ((a : A) → P a → Q a → R a → S a) → (r : Result A E)
    → IfOk r P → IfOk r Q → IfOk r R → IfOk r S
of_three P Q R S f (Ok a) h i j = f a h i j
of_three P Q R S f (Err e) h i j = tt

-- and in four
pub of_four : {A E : Type 0} (P Q R S T : A → Type 0) → ((a : A) → P a → Q a → R a → S a → T a) → (r : Result A E)
    → IfOk r P → IfOk r Q → IfOk r R → IfOk r S → IfOk r T
of_four P Q R S T f (Ok a) h i j k = f a h i j k
of_four P Q R S T f (Err e) h i j k = tt

-- and of each refusal
pub of_err : {A E : Type 0} (P Q : E → Type 0) → ((e : E) → P e → Q e) → (r : Result A E) → IfErr r P → IfErr r Q
of_err P Q f (Ok a) h = tt
of_err P Q f (Err e) h = f e h

-- what is told for a reason is told for each that follows
pub because : (P Q : Text → Type 0) → ((t : Text) → P t → Q t) → (r : Refusal) → IsToldAs P r → IsToldAs Q r
because P Q f refusals.Memory h = tt
because P Q f (refusals.Told t) h = f _ h

-- what is so in two ways is so in both
pub both : (P Q : Text → Type 0) → (r : Refusal) → IsToldAs P r → IsToldAs Q r → IsToldAs (λ t. P t × Q t) r
both P Q refusals.Memory h k = tt
both P Q (refusals.Told t) h k = (h, k)
