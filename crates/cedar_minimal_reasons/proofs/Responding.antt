-- What is answered by some facts, and what a decision that is given by them says.
use Rattle.std.proofs.Common.{◌≡◌, refl, sym, ap, ◌∙◌, subst, Bool, true, false, cond, Result, Ok, Err, IfOk, List, Option, Some, None}
use Rattle.std.specs.declared.alloc.AllocError.{AllocError}
use Rattle.cedar_model.specs.Settings.{Setting}
use Rattle.cedar_model.specs.Chains.{has_limit}
use Rattle.cedar_model.specs.Policies as model
use Rattle.cedar_model.specs.Reports.{given_decision}
use Rattle.cedar_model.proofs.Limits.{none_has}
use Rattle.cedar_model.proofs.Bounds.{reports_hold}
use Rattle.cedar_reasons.specs.Facts.{KnownFact}
use Rattle.cedar_authorizer.specs.declared.responses.partial_response.PartialResponse.{PartialResponse}
use Rattle.cedar_authorizer.specs.responses.Rows.{rows_view}
use Rattle.cedar_authorizer.specs.Running.{errors_of, IsRun, ResponseStands}
use Rattle.cedar_minimal_reasons.specs.Questions.{Question, asked_with, IsResponseTo, Answers, Decides, settled}

pub responds : (q : Question) (fs : List KnownFact) (s : Setting) → s ≡ asked_with q fs
    → (o : Result PartialResponse AllocError) → IfOk o (IsRun q.configuration s q.policies)
    → IfOk o (ResponseStands q.configuration s q.policies) → IfOk o (IsResponseTo q fs)
responds q fs s same (Ok r) run stands = record {
  run = subst (λ t. IsRun q.configuration t q.policies r) same run;
  stands = subst (λ t. ResponseStands q.configuration t q.policies r) same stands;
}
responds q fs s same (Err e) run stands = tt

-- a decision that is settled is given, and no limit is recorded
settled_by : (limit : Bool) (o : Option model.Decision) (d : model.Decision) → Some d ≡ cond limit None o
    → (limit ≡ false) × (o ≡ Some d)
settled_by true o d h = absurd (let z = h in cc)
settled_by false o d h = (refl, sym h)

pub decides : (q : Question) (fs : List KnownFact) (d : model.Decision) → Answers q fs (Some d) → Decides q fs d
decides q fs d a ans w completes fit =
    let r = a.response in
    let given = settled_by (has_limit (errors_of r)) (given_decision (rows_view r)) d a.decides in
    let stand = a.responds.stands ans w completes fit (none_has (errors_of r) given.0) in
    (reports_hold q.configuration.mode q.configuration.extensions ans w q.policies (rows_view r) stand).decision_holds d given.1
