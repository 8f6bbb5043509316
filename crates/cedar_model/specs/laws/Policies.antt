-- Facts of decision and reasons in each mode of handling errors, of the verdicts that count. The functions of `policies`
-- have them as their contracts.
use Rattle.std.specs.Prelude.{◌≡◌, ◌≢◌, true, false, List, ◌∷◌, ◌++◌}
use Rattle.cedar_model.specs.Terms.{Text}
use Rattle.cedar_model.specs.Policies.{permit, forbid, erring, Judged, allow, deny, decision, reasons, some_satisfied}
use Rattle.cedar_model.specs.Policies.{ErrorHandling, skip, forbid_on_error, counting}
use Rattle.cedar_model.specs.Reordering.{IsReordering}

-- the order of policies changes nothing
abbrev pub OrderChangesNothing : Type 0
OrderChangesNothing =
    (mode : ErrorHandling) (ps qs : List Judged) → IsReordering Judged ps qs
    → (decision (counting mode ps) ≡ decision (counting mode qs))
    × IsReordering Text (reasons (counting mode ps)) (reasons (counting mode qs))

-- an added forbid never turns Deny into Allow
abbrev pub ForbidsKeepDeny : Type 0
ForbidsKeepDeny =
    (mode : ErrorHandling) (before after : List Judged) (p : Judged) → p.effect ≡ forbid
    → decision (counting mode (before ++ after)) ≡ deny → decision (counting mode (before ++ (p ∷ after))) ≡ deny

-- an added permit never turns Allow into Deny
abbrev pub PermitsKeepAllow : Type 0
PermitsKeepAllow =
    (mode : ErrorHandling) (before after : List Judged) (p : Judged) → p.effect ≡ permit
    → decision (counting mode (before ++ after)) ≡ allow → decision (counting mode (before ++ (p ∷ after))) ≡ allow

-- where errors are skipped, taking out an erring policy changes neither decision nor reasons
abbrev pub ErringChangesNothing : Type 0
ErringChangesNothing =
    (before after : List Judged) (p : Judged) → p.verdict_of ≡ erring
    → (decision (counting skip (before ++ (p ∷ after))) ≡ decision (counting skip (before ++ after)))
    × (reasons (counting skip (before ++ (p ∷ after))) ≡ reasons (counting skip (before ++ after)))

-- nor does taking out an erring permit, in each mode
abbrev pub ErringPermitChangesNothing : Type 0
ErringPermitChangesNothing =
    (mode : ErrorHandling) (before after : List Judged) (p : Judged) → p.effect ≡ permit → p.verdict_of ≡ erring
    → (decision (counting mode (before ++ (p ∷ after))) ≡ decision (counting mode (before ++ after)))
    × (reasons (counting mode (before ++ (p ∷ after))) ≡ reasons (counting mode (before ++ after)))

-- where an erring forbid counts, taking it out changes the decision only where no other forbid counts and some permit
-- is satisfied
abbrev pub ErringForbidDecidesAlone : Type 0
ErringForbidDecidesAlone =
    (before after : List Judged) (p : Judged) → p.effect ≡ forbid → p.verdict_of ≡ erring
    → decision (counting forbid_on_error (before ++ (p ∷ after))) ≢ decision
    (counting forbid_on_error (before ++ after))
    → (some_satisfied forbid (counting forbid_on_error (before ++ after)) ≡ false)
    × (some_satisfied permit (counting forbid_on_error (before ++ after)) ≡ true)

-- where errors are skipped, each verdict counts as it is
abbrev pub SkippingCountsAsItIs : Type 0
SkippingCountsAsItIs = (ps : List Judged) → counting skip ps ≡ ps
