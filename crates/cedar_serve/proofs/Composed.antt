-- What follows from what a call answers.
use Rattle.std.proofs.Common.{Result, Ok, Err, IfOk, OnOk}
use Rattle.cedar_serve.specs.declared.serving.Stopped.{Stopped}
use Rattle.cedar_serve.specs.declared.serving.Stopped.TheVariants as stopped
use Rattle.cedar_serve.specs.Connections.{IfBroken}

-- what holds of each answer holds of the one that is given
pub of_ok : {A E : Type 0} (P Q : A → Type 0) → ((a : A) → P a → Q a) → (r : Result A E) → IfOk r P → IfOk r Q
of_ok P Q f (Ok a) h = f a h
of_ok P Q f (Err e) h = tt

-- and so of what follows from that there is one
pub on_ok : {A E : Type 0} (P Q : Type 0) → (P → Q) → (r : Result A E) → OnOk r P → OnOk r Q
on_ok P Q f (Ok a) h = f h
on_ok P Q f (Err e) h = tt

-- and of what follows from that it broke
pub if_broken : {A : Type 0} (P Q : Type 0) → (P → Q) → (r : Result A Stopped) → IfBroken P r → IfBroken Q r
if_broken P Q f (Ok a) h = tt
if_broken P Q f (Err (stopped.NotStarted e)) h = tt
if_broken P Q f (Err (stopped.Broken e)) h = f h
