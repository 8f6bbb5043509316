-- Whether entities are brought, and what is answered where none are.
use Rattle.std.proofs.Common.{◌≡◌, refl, sym, subst, true, false, Option, None, Some, codes, string_bytes}
use Rattle.json.specs.Json.{Json}
use Rattle.cedar_model.specs.Terms.{Text}
use Rattle.cedar_layers.specs.declared.policies.entities.Entities.{Entities}
use Rattle.cedar_endpoints.specs.declared.replies.Outcome.{Outcome}
use Rattle.cedar_endpoints.specs.declared.replies.Outcome.TheVariants as outcomes
use Rattle.cedar_endpoints.specs.declared.replies.Remainder.{Remainder}
use Rattle.cedar_endpoints.specs.declared.replies.Remainder.TheVariants as remainders
use Rattle.cedar_service.specs.declared.brought.Unbrought.{Unbrought}
use Rattle.cedar_service.specs.declared.brought.Unbrought.TheVariants as unbroughts
use Rattle.cedar_service.specs.declared.faults.Refusal.{Refusal}
use Rattle.cedar_service.specs.declared.faults.Refusal.TheVariants as refusals
use Rattle.cedar_service.specs.Brought.{laid_or, IsNoneBrought, IsUnbroughtSo}
use Rattle.cedar_service.specs.Decided.{IsRefusedAs, IsTooLargeAs, IsUnbroughtOutcome}
use Rattle.cedar_service.specs.Faults.{IsToldAs}
use Rattle.cedar_service.specs.Left.{IsUntoldAs, IsUntoldOf, IsUnbroughtRemainder}
use Rattle.cedar_service.proofs.Responding.{refused_as}
use Rattle.cedar_service.proofs.Untold.{untold_as}

-- what is said of why no entities are brought is said for each reason that follows
pub so_because : (P Q R S : Text → Type 0) → ((t : Text) → P t → R t) → ((t : Text) → Q t → S t) → (u : Unbrought)
    → IsUnbroughtSo P Q u → IsUnbroughtSo R S u
so_because P Q R S f g (unbroughts.Refused refusals.Memory) h = tt
so_because P Q R S f g (unbroughts.Refused (refusals.Told t)) h = f _ h
so_because P Q R S f g (unbroughts.TooLarge t) h = g _ h

-- none is laid over the store that stands
pub none_laid : (s : Entities) (o : Option Json) (laid : Option Entities) → IsNoneBrought o laid → laid_or s laid ≡ s
none_laid s o laid (none, is) = subst (λ l. laid_or s l ≡ s) (sym is) refl

-- no decision, for that reason
pub unbrought_outcome : (P Q : Text → Type 0) (R : Outcome → Type 0) → ((o : Outcome) → IsRefusedAs P o → R o)
    → ((o : Outcome) → IsTooLargeAs Q o → R o) → (u : Unbrought) → IsUnbroughtSo P Q u → (o : Outcome)
    → IsUnbroughtOutcome u o → R o
unbrought_outcome P Q R f g (unbroughts.Refused r) h o is = f o (refused_as P r o h is)
unbrought_outcome P Q R f g (unbroughts.TooLarge t) h (outcomes.Decided b context) is = absurd is
unbrought_outcome P Q R f g (unbroughts.TooLarge t) h (outcomes.Refused error) is = absurd is
unbrought_outcome P Q R f g (unbroughts.TooLarge t) h (outcomes.TooLarge error) is =
    g (outcomes.TooLarge error) (subst (λ s. Q (string_bytes s)) (sym is) h)

-- nothing is told, for that reason
pub unbrought_remainder : (P Q : Text → Type 0) (R : Remainder → Type 0) → ((o : Remainder) → IsUntoldAs P o → R o)
    → ((o : Remainder) → IsUntoldOf Q o → R o) → (u : Unbrought) → IsUnbroughtSo P Q u → (o : Remainder)
    → IsUnbroughtRemainder u o → R o
unbrought_remainder P Q R f g (unbroughts.Refused r) h o is = f o (untold_as P r o h is)
unbrought_remainder P Q R f g (unbroughts.TooLarge t) h (remainders.Told response) is = absurd is
unbrought_remainder P Q R f g (unbroughts.TooLarge t) h (remainders.Refused error) is = absurd is
unbrought_remainder P Q R f g (unbroughts.TooLarge t) h (remainders.TooLarge error) is =
    g (remainders.TooLarge error) (subst (λ s. Q (string_bytes s)) (sym is) h)
