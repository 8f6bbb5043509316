-- What is so of an answer, wherever there is one.
use Rattle.std.proofs.Common.{Result, Ok, Err, IfOk}

pub of_ok : {A E : Type 0} (P Q : A → Type 0) → ((a : A) → P a → Q a) → (r : Result A E) → IfOk r P → IfOk r Q
of_ok P Q f (Ok a) h = f a h
of_ok P Q f (Err e) h = tt
