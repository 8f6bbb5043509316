-- What is told, whatever it is.
use Rattle.std.proofs.Common.{Result, Ok, Err, OnOk}
use Rattle.std.specs.Prelude.{⊤}
use Rattle.cedar_service.specs.declared.faults.Refusal.{Refusal}
use Rattle.cedar_service.specs.declared.faults.Refusal.TheVariants as refusals
use Rattle.cedar_service.specs.Faults.{IsToldAs}

pub told_any : (r : Refusal) → IsToldAs (λ t. ⊤) r
told_any refusals.Memory = tt
told_any (refusals.Told t) = tt

pub any_ok : {A E : Type 0} (r : Result A E) → OnOk r ⊤
any_ok (Ok a) = tt
any_ok (Err e) = tt

pub ruleset told = (told_any, any_ok)
