-- What is told for a reason is told for each that follows.
use Rattle.cedar_cli.specs.declared.refusal.Refusal.{Refusal}
use Rattle.cedar_cli.specs.declared.refusal.Refusal.TheVariants as refusals
use Rattle.cedar_cli.specs.Reasons.{IsToldFor}

pub because : (P Q : Type 0) → (P → Q) → (r : Refusal) → IsToldFor P r → IsToldFor Q r
because P Q f refusals.Memory h = tt
because P Q f (refusals.Told lines) h = f h
