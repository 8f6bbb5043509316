-- A sheet that is filled policy by policy, for the crate above.
use Rattle.std.proofs.Common.{◌≡◌, false, List, [], ◌∷◌, ◌++◌, Option, refl}
use Rattle.cedar_model.specs.Terms.{Text, Term}
use Rattle.cedar_model.specs.Failures.{Failure}
use Rattle.cedar_model.specs.Policies.{Effect, permit, forbid, ErrorHandling, skip, forbid_on_error}
use Rattle.cedar_model.specs.Responses.{with_error, counted_report, reported_true, reported_false, reported_residual}
use Rattle.cedar_model.specs.Chains.{is_true, is_false, is_residual}
use Rattle.cedar_authorizer.specs.responses.Rows.{Located, located_of}
use Rattle.cedar_authorizer.specs.responses.Sheets.{sorted, nothing_noted, noted_also}
use Rattle.cedar_authorizer.proofs.Rows.{of_append}

pub sorted_none : sorted [] [] ≡ nothing_noted
unfolding located_of
sorted_none = refl

-- one more row and its error, after the others
pub sorted_more : (ls : List Located) (errors : List (Text × Failure)) (l : Located) (e : Option Failure)
    → sorted (ls ++ l ∷ []) (errors ++ with_error l.row.id e []) ≡ noted_also (sorted ls errors) l e
sorted_more ls errors l e = λ i. record {
  true_permits = of_append permit is_true ls (l ∷ []) i;
  false_permits = of_append permit is_false ls (l ∷ []) i;
  residual_permits = of_append permit is_residual ls (l ∷ []) i;
  true_forbids = of_append forbid is_true ls (l ∷ []) i;
  false_forbids = of_append forbid is_false ls (l ∷ []) i;
  residual_forbids = of_append forbid is_residual ls (l ∷ []) i;
  errors = errors ++ with_error l.row.id e [];
}

-- ---- what no mode changes

pub true_stays : (mode : ErrorHandling) (e : Effect) → counted_report mode e reported_true ≡ reported_true
unfolding counted_report
true_stays skip e = refl
true_stays forbid_on_error permit = refl
true_stays forbid_on_error forbid = refl

pub false_stays : (mode : ErrorHandling) (e : Effect) → counted_report mode e (reported_false false) ≡ reported_false false
unfolding counted_report
false_stays skip e = refl
false_stays forbid_on_error permit = refl
false_stays forbid_on_error forbid = refl

pub residual_stays : (mode : ErrorHandling) (e : Effect) (t : Term) → counted_report mode e (reported_residual t) ≡ reported_residual t
unfolding counted_report
residual_stays skip e t = refl
residual_stays forbid_on_error permit t = refl
residual_stays forbid_on_error forbid t = refl

pub ruleset stays = (true_stays, false_stays, residual_stays)
