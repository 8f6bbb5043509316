-- The facts of decision and reasons, of the verdicts that count in a mode.
use Rattle.std.specs.Prelude.{◌≡◌, ◌≢◌, Bool, true, false, cond, ◌||◌, List, [], ◌∷◌, ◌++◌}
use Rattle.std.proofs.Common.{refl, sym, ap, ◌∙◌}
use Rattle.cedar_model.specs.Policies.{permit, forbid, erring, Judged, Decision, allow, deny, is_satisfied}
use Rattle.cedar_model.specs.Policies.{is_satisfied_by, some_satisfied, decision, reasons}
use Rattle.cedar_model.specs.Policies.{ErrorHandling, skip, forbid_on_error, counted, counted_verdict, counting}
use Rattle.cedar_model.specs.laws.Policies as PolicyLaws
use Rattle.cedar_model.specs.Reordering.{IsReordering, nothing, keeping, swapping, chaining}
use Rattle.cedar_model.proofs.Decisions.{order_changes_nothing, forbids_keep_deny, permits_keep_allow}
use Rattle.cedar_model.proofs.Decisions.{erring_changes_nothing, some_with}

counted_reordered : (mode : ErrorHandling) {ps qs : List Judged} → IsReordering Judged ps qs
    → IsReordering Judged (counting mode ps) (counting mode qs)
counted_reordered mode nothing = nothing
counted_reordered mode (keeping p r) = keeping (counted mode p) (counted_reordered mode r)
counted_reordered mode (swapping p q) = swapping (counted mode p) (counted mode q)
counted_reordered mode (chaining r q) = chaining (counted_reordered mode r) (counted_reordered mode q)

counting_append : (mode : ErrorHandling) (ps qs : List Judged)
    → counting mode (ps ++ qs) ≡ counting mode ps ++ counting mode qs
counting_append mode [] qs = refl
counting_append mode (p ∷ ps) qs = ap (λ xs. counted mode p ∷ xs) (counting_append mode ps qs)

pub order : PolicyLaws.OrderChangesNothing
order mode ps qs r = order_changes_nothing (counting mode ps) (counting mode qs) (counted_reordered mode r)

pub forbids : PolicyLaws.ForbidsKeepDeny
forbids mode before after p e h =
    ap decision (counting_append mode before (p ∷ after))
    ∙ forbids_keep_deny (counting mode before) (counting mode after) (counted mode p) e
    (sym (ap decision (counting_append mode before after)) ∙ h)

pub permits : PolicyLaws.PermitsKeepAllow
permits mode before after p e h =
    ap decision (counting_append mode before (p ∷ after))
    ∙ permits_keep_allow (counting mode before) (counting mode after) (counted mode p) e
    (sym (ap decision (counting_append mode before after)) ∙ h)

-- ---- an erring policy that is skipped

-- it counts as erring
without_one : (mode : ErrorHandling) (before after : List Judged) (p : Judged) → (counted mode p).verdict_of ≡ erring
    → (decision (counting mode (before ++ (p ∷ after))) ≡ decision (counting mode (before ++ after)))
    × (reasons (counting mode (before ++ (p ∷ after))) ≡ reasons (counting mode (before ++ after)))
without_one mode before after p h =
    let k = erring_changes_nothing (counting mode before) (counting mode after) (counted mode p) h in (
      ap decision (counting_append mode before (p ∷ after)) ∙ k.0
          ∙ sym (ap decision (counting_append mode before after)),
      ap reasons (counting_append mode before (p ∷ after))
          ∙ k.1 ∙ sym (ap reasons (counting_append mode before after)),
    )

pub erring_skipped : PolicyLaws.ErringChangesNothing
unfolding counted_verdict
erring_skipped before after p h = without_one skip before after p h

erring_permit_counts : (mode : ErrorHandling) → counted_verdict mode permit erring ≡ erring
unfolding counted_verdict
erring_permit_counts skip = refl
erring_permit_counts forbid_on_error = refl

pub erring_permit : PolicyLaws.ErringPermitChangesNothing
erring_permit mode before after p e h =
    without_one mode before after p ((λ i. counted_verdict mode (e i) (h i)) ∙ erring_permit_counts mode)

-- ---- an erring forbid that counts

forbid_counts : is_satisfied_by forbid (counted_verdict forbid_on_error forbid erring) forbid ≡ true
unfolding counted_verdict is_satisfied_by
forbid_counts = refl

abbrev decided : Bool → Bool → Decision
decided f p = cond f deny (cond p allow deny)

not_denied : (f p : Bool) → deny ≢ decided f p → (f ≡ false) × (p ≡ true)
not_denied true p h = absurd (h refl)
not_denied false true h = (refl, refl)
not_denied false false h = absurd (h refl)

pub erring_forbid : PolicyLaws.ErringForbidDecidesAlone
erring_forbid before after p e h n =
    not_denied (some_satisfied forbid (counting forbid_on_error (before ++ after)))
    (some_satisfied permit (counting forbid_on_error (before ++ after))) (λ k. n (denied ∙ k))
  where
    counts : is_satisfied forbid (counted forbid_on_error p) ≡ true
    counts = (λ i. is_satisfied_by forbid (counted_verdict forbid_on_error (e i) (h i)) (e i)) ∙ forbid_counts

    some : some_satisfied forbid (counting forbid_on_error (before ++ (p ∷ after))) ≡ true
    some =
        ap (some_satisfied forbid) (counting_append forbid_on_error before (p ∷ after))
        ∙ some_with forbid (counting forbid_on_error before) (counting forbid_on_error after)
        (counted forbid_on_error p)
        ∙ ap (λ b. b || some_satisfied forbid (counting forbid_on_error before ++ counting forbid_on_error after))
        counts

    denied : decision (counting forbid_on_error (before ++ (p ∷ after))) ≡ deny
    denied =
        ap (λ b. decided b (some_satisfied permit (counting forbid_on_error (before ++ (p ∷ after))))) some

pub skipping : PolicyLaws.SkippingCountsAsItIs
unfolding counted_verdict
skipping [] = refl
skipping (p ∷ ps) = ap (λ xs. p ∷ xs) (skipping ps)
