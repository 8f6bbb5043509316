-- Policies that a response names, and the rows that they are.
use Rattle.std.proofs.Common.{◌≡◌, List, [], ◌∷◌, ◌++◌, map, Option, Result, Ok, Err, IfOk, refl, ap, ◌∙◌}
use Rattle.std.specs.declared.alloc.AllocError.{AllocError}
use Rattle.json.specs.Json.{Json, string}
use Rattle.cedar_model.specs.Terms.{Text}
use Rattle.cedar_model.specs.Policies as model
use Rattle.cedar_model.specs.Responses.{Row, carried}
use Rattle.cedar_model.specs.Reports.{ids}
use Rattle.cedar_names.specs.declared.names.Loc.{Loc}
use Rattle.cedar_layers.specs.declared.policies.policy.Policy.{Policy}
use Rattle.cedar_layers.specs.Policies.{PolicyView, policy_view}
use Rattle.cedar_text_printer.specs.Policies.{policy_text}
use Rattle.cedar_authorizer.specs.responses.Rows.{Located, rows_in}
use Rattle.cedar_authorizer.specs.responses.Readers.{IsCarriedOn}
use Rattle.cedar_json_writer.specs.Reading.{AddsId, AddsResidual, policy_ids, policy_member, policy_members}
use Rattle.cedar_json_writer.specs.Responses.{residual_member}
use Rattle.cedar_json_writer.proofs.Listed.{one_more}

-- the policies that rows are carried on as
abbrev pub carried_on : List Located → List model.Policy
carried_on ls = map carried (rows_in ls)

-- the ids of rows, as policies
pub ids_carried : (rs : List Row) → policy_ids (map carried rs) ≡ ids rs
ids_carried [] = refl
ids_carried (r ∷ rs) = ap (λ (ts : List Text). r.id ∷ ts) (ids_carried rs)

-- what is left of rows, as policies
pub members_carried : (rs : List Row) → policy_members (map carried rs) ≡ map residual_member rs
members_carried [] = refl
members_carried (r ∷ rs) = ap (λ (ms : List (Text × Json)). residual_member r ∷ ms) (members_carried rs)

-- one more id
pub id_added : (r : Result Policy AllocError) (l : Located) (ls rest : List Located) (done after all : List Json) → ls ≡ l ∷ rest → IfOk r (IsCarriedOn l)
    → AddsId r done after → done ++ map string (policy_ids (carried_on ls)) ≡ all → after ++ map string (policy_ids (carried_on rest)) ≡ all
id_added (Ok p) l ls rest done after all is on adds whole =
    let same : (policy_view p).id ≡ l.row.id = ap (λ (m : model.Policy × Option Loc). m.0.id) on.policy in
    let here : after ≡ done ++ string l.row.id ∷ [] = adds ∙ ap (λ (t : Text). done ++ string t ∷ []) same in
    one_more done after all _ _ (string l.row.id) (ap (λ (x : List Located). map string (policy_ids (carried_on x))) is) here whole
id_added (Err e) l ls rest done after all is on adds whole = absurd adds

abbrev member_of : PolicyView → Text × Json
member_of v = (v.id, string (policy_text v))

-- one more residual
pub residual_added : (r : Result Policy AllocError) (l : Located) (ls rest : List Located) (done after all : List (Text × Json)) → ls ≡ l ∷ rest → IfOk r (IsCarriedOn l)
    → AddsResidual r done after → done ++ policy_members (carried_on ls) ≡ all → after ++ policy_members (carried_on rest) ≡ all
residual_added (Ok p) l ls rest done after all is on adds whole =
    let same : member_of (policy_view p) ≡ policy_member (carried l.row) = ap (λ (m : model.Policy × Option Loc). policy_member m.0) on.policy in
    let here : after ≡ done ++ policy_member (carried l.row) ∷ [] = adds ∙ ap (λ (m : Text × Json). done ++ m ∷ []) same in
    one_more done after all _ _ (policy_member (carried l.row)) (ap (λ (x : List Located). policy_members (carried_on x)) is) here whole
residual_added (Err e) l ls rest done after all is on adds whole = absurd adds
