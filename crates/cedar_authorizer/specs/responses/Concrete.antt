-- What a partial response is made of once it is made concrete.
use Rattle.std.specs.Prelude.{◌≡◌, Bool, true, false, List, ◌++◌, map, Option}
use Rattle.cedar_model.specs.Terms.{Text}
use Rattle.cedar_model.specs.Failures.{Failure, residual_is_left}
use Rattle.cedar_model.specs.Policies.{permit, forbid, ErrorHandling, skip, forbid_on_error}
use Rattle.cedar_model.specs.Chains.{is_residual}
use Rattle.cedar_model.specs.Authorizations.{Authorized}
use Rattle.cedar_model.specs.Reports.{concretized}
use Rattle.cedar_decisions.specs.Decisions.{decision_view}
use Rattle.cedar_names.specs.declared.names.Loc.{Loc}
use Rattle.cedar_expressions.specs.View.{view, expr_loc}
use Rattle.cedar_layers.specs.Policies.{policy_id_text}
use Rattle.cedar_authorizer.specs.declared.responses.partial_response.PartialResponse.{PartialResponse}
use Rattle.cedar_authorizer.specs.declared.responses.response.Response.{Response}
use Rattle.cedar_authorizer.specs.responses.Promises.{KeepsDecision, IsDecidedByPolicies}
use Rattle.cedar_authorizer.specs.responses.Responses.{errors_view, error_places, response_view, response_places}
use Rattle.cedar_authorizer.specs.responses.Rows.{TrueEntry, ResidualEntry, Located, locs_in, located_of, located_view}
use Rattle.cedar_authorizer.specs.responses.Rows.{rows_view}
use Rattle.cedar_authorizer.specs.responses.Rows.{mode_of}

-- the ids of entries
abbrev pub id_texts : List TrueEntry → List Text
id_texts es = map (λ e. policy_id_text e.0) es

-- the ids of reasons, of true permits, true forbids and residual forbids, by whether there is a true or a residual forbid
abbrev pub reason_texts : ErrorHandling → Bool → List Text → List Text → List Text → List Text
reason_texts mode false permits forbids residuals = permits
reason_texts skip true permits forbids residuals = forbids
reason_texts forbid_on_error true permits forbids residuals = forbids ++ residuals

-- that their residuals are left
abbrev pub errors_left : List ResidualEntry → List (Text × Failure)
errors_left es = map (λ e. (policy_id_text e.0, residual_is_left (view e.1.0.value))) es

-- and where these stand
abbrev pub places_left : List ResidualEntry → List (Option Loc)
places_left es = map (λ e. expr_loc e.1.0.value) es

-- where these stand at the residual forbids of rows, at the residual permits, and where those recorded arose
abbrev pub places_with : List Located → List (Option Loc) → List (Option Loc)
places_with ls recorded =
    locs_in (located_of forbid is_residual ls) ++ (locs_in (located_of permit is_residual ls) ++ recorded)

-- what a partial response is made concrete as: each residual counts as an error
abbrev pub concrete_response : PartialResponse → Authorized
concrete_response p = concretized (mode_of p) (rows_view p) (errors_view p.errors.items)

-- where its errors arise: at the residual forbids, at the residual permits, and where those recorded do
abbrev pub concrete_places : PartialResponse → List (Option Loc)
concrete_places p = places_with (located_view p) (error_places p.errors.items)

-- a response is what a partial response is made concrete as
pub record IsConcreteOf (p : PartialResponse) (r : Response) : Type 0 where
  pub response : response_view r ≡ concrete_response p
  pub places : response_places r ≡ concrete_places p
  pub given : KeepsDecision (rows_view p) (decision_view r.decision)
  pub decided : IsDecidedByPolicies (rows_view p) (response_view r)
