use Rattle.std.proofs.Common.{◌≡◌, refl, subst, IfOk}
use Rattle.cedar_model.specs.Policies.{Effect}
use Rattle.cedar_authorizer.specs.responses.Rows.{true_rows, false_rows, residual_rows}
use Rattle.cedar_authorizer.specs.responses.Responses.{errors_view, error_places}
use Rattle.cedar_authorizer.proofs.Rows.{same_rows}
use Rattle.cedar_authorizer.proofs.responses.partial_response.copies.PartialResponseClone.clone.Goals as goal

pub returns : goal.returns
returns c =
    let r = c.args.self.now in
    let made = c.in_ok-copied.ensures in
    let p = c.copied_entries-permits.ensures in
    let f = c.copied_entries-forbids.ensures in
    record {
      cases = record {
        mode = refl;
        rows = same_rows r _
            (subst (λ x. IfOk x (λ m. (e : Effect) → true_rows e m.satisfied.entries ≡ true_rows e r.satisfied_permits.entries)) made.first p.trues)
            (subst (λ x. IfOk x (λ m. (e : Effect) → false_rows e m.unsatisfied.entries ≡ false_rows e r.false_permits.entries)) made.first p.falses)
            (subst (λ x. IfOk x (λ m. (e : Effect) → residual_rows e m.residual.entries ≡ residual_rows e r.residual_permits.entries)) made.first p.residuals)
            (subst (λ x. IfOk x (λ m. (e : Effect) → true_rows e m.satisfied.entries ≡ true_rows e r.satisfied_forbids.entries)) made.second f.trues)
            (subst (λ x. IfOk x (λ m. (e : Effect) → false_rows e m.unsatisfied.entries ≡ false_rows e r.false_forbids.entries)) made.second f.falses)
            (subst (λ x. IfOk x (λ m. (e : Effect) → residual_rows e m.residual.entries ≡ residual_rows e r.residual_forbids.entries)) made.second f.residuals);
        errors = subst (λ x. IfOk x (λ es. errors_view es.items ≡ errors_view r.errors.items)) made.third c.copied_errors-errors.ensures.errors;
        places = subst (λ x. IfOk x (λ es. error_places es.items ≡ error_places r.errors.items)) made.third c.copied_errors-errors.ensures.places;
        request = subst (λ x. IfOk x (λ q. q.value ≡ r.request.value)) made.fourth c.share_held-request.ensures;
      };
    }
