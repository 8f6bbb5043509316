-- What is refused, as a finding.
use Rattle.std.proofs.Common.{sym, subst, string_bytes}
use Rattle.cedar_model.specs.Terms.{Text}
use Rattle.cedar_endpoints.specs.declared.replies.Finding.{Finding}
use Rattle.cedar_endpoints.specs.declared.replies.Finding.TheVariants as findings
use Rattle.cedar_service.specs.declared.faults.Refusal.{Refusal}
use Rattle.cedar_service.specs.declared.faults.Refusal.TheVariants as refusals
use Rattle.cedar_service.specs.Faults.{IsToldAs}
use Rattle.cedar_service.specs.Searched.{IsUnfound, IsUnfoundAs}

-- a refusal that is handed on tells what it tells
pub unfound_as : (P : Text → Type 0) → (r : Refusal) → (f : Finding) → IsToldAs P r → IsUnfound r f → IsUnfoundAs P f
unfound_as P refusals.Memory f h is = absurd is
unfound_as P (refusals.Told t) (findings.Found results next) h is = absurd is
unfound_as P (refusals.Told t) (findings.Refused error) h is = subst (λ s. P (string_bytes s)) (sym is) h
