-- What the model's laws say of what a response gives.
use Rattle.std.proofs.Common.{◌≡◌, Bool, true, false, cond, not, ◌||◌, List, [], ◌++◌, Option, Some, None, IfSome, option_map, sym, ap, subst, ◌∙◌}
use Rattle.std.proofs.lemmas.List.{append-nil}
use Rattle.cedar_model.specs.Responses.{Row}
use Rattle.cedar_model.specs.Policies.{permit, forbid, allow, deny}
use Rattle.cedar_model.specs.Reports.{some_row, trues, residuals, given_decision, must_determine, may_determine}
use Rattle.cedar_model.proofs.Bounds
use Rattle.cedar_decisions.specs.declared.decision.Decision.{Decision}
use Rattle.cedar_decisions.specs.Decisions.{decision_view}
use Rattle.cedar_authorizer.specs.responses.Promises.{IsDecisionOf, AreReasonsOf, HoldReasonsOf}

pub given_holds : (rows : List Row) (o : Option Decision) → option_map decision_view o ≡ given_decision rows → IfSome o (λ d. IsDecisionOf rows (decision_view d))
given_holds rows None e = tt
given_holds rows (Some d) e = λ mode X ans w ps s. (Bounds.reports_hold mode X ans w ps rows s).decision_holds (decision_view d) (sym e)

pub must_hold : (rows must : List Row) → must ≡ must_determine rows → AreReasonsOf rows must
must_hold rows must e = subst (AreReasonsOf rows) (sym e) (λ mode X ans w ps s. (Bounds.reports_hold mode X ans w ps rows s).must_are_reasons)

pub may_hold : (rows may : List Row) → may ≡ may_determine rows → HoldReasonsOf rows may
may_hold rows may e = subst (HoldReasonsOf rows) (sym e) (λ mode X ans w ps s. (Bounds.reports_hold mode X ans w ps rows s).reasons_may)

-- the decision by whether there are such rows
pub decided_rows : (rows : List Row) (o : Option Decision) (p q f g : Bool) → p ≡ some_row (trues permit rows) → q ≡ some_row (residuals permit rows)
    → f ≡ some_row (trues forbid rows) → g ≡ some_row (residuals forbid rows)
    → option_map decision_view o ≡ cond f (Some deny) (cond (not (p || q)) (Some deny) (cond g None (cond p (Some allow) None)))
    → option_map decision_view o ≡ given_decision rows
decided_rows rows o p q f g hp hq hf hg h =
    h ∙ (λ i. cond (hf i) (Some deny) (cond (not (hp i || hq i)) (Some deny) (cond (hg i) None (cond (hp i) (Some allow) None))))

-- ---- which of the rows determine the decision

module _ (rows ls : List Row) (b : Bool) where
  pub must_denied : b ≡ (some_row (trues forbid rows) || some_row (residuals forbid rows)) → b ≡ true → ls ≡ trues forbid rows ++ [] → AreReasonsOf rows ls
  must_denied h e s =
      must_hold rows ls (s ∙ append-nil _ ∙ sym (ap (λ d. cond d (trues forbid rows) (trues permit rows)) (sym h ∙ e)))

  pub must_allowed : b ≡ (some_row (trues forbid rows) || some_row (residuals forbid rows)) → b ≡ false → ls ≡ trues permit rows ++ [] → AreReasonsOf rows ls
  must_allowed h e s =
      must_hold rows ls (s ∙ append-nil _ ∙ sym (ap (λ d. cond d (trues forbid rows) (trues permit rows)) (sym h ∙ e)))

  abbrev may_by : Bool → List Row
  may_by d =
      cond d (trues forbid rows ++ residuals forbid rows)
      (trues permit rows ++ (residuals permit rows ++ residuals forbid rows))

  pub may_denied : b ≡ some_row (trues forbid rows) → b ≡ true → ls ≡ trues forbid rows ++ residuals forbid rows → HoldReasonsOf rows ls
  may_denied h e s = may_hold rows ls (s ∙ sym (ap may_by (sym h ∙ e)))

  pub may_allowed : b ≡ some_row (trues forbid rows) → b ≡ false → ls ≡ trues permit rows ++ (residuals permit rows ++ residuals forbid rows) → HoldReasonsOf rows ls
  may_allowed h e s = may_hold rows ls (s ∙ sym (ap may_by (sym h ∙ e)))
