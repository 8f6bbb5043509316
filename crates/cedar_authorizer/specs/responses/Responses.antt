-- Responses as plain data.
use Rattle.std.specs.Prelude.{Bool, List, map, Option}
use Rattle.std.specs.List.{list_any}
use Rattle.std.specs.declared.hash.BuildHasherDefault.{BuildHasherDefault}
use Rattle.std.specs.declared.hash.FoldHasher.{FoldHasher}
use Rattle.std.specs.HashSet.{HashSet}
use Rattle.cedar_model.specs.Terms.{Text}
use Rattle.cedar_model.specs.Outcomes.{text_eq}
use Rattle.cedar_model.specs.Failures.{Failure}
use Rattle.cedar_model.specs.Policies as model
use Rattle.cedar_model.specs.Authorizations.{Authorized}
use Rattle.cedar_decisions.specs.Decisions.{decision_view}
use Rattle.cedar_names.specs.declared.names.Loc.{Loc}
use Rattle.cedar_layers.specs.declared.policies.policy.PolicyID.{PolicyID}
use Rattle.cedar_layers.specs.Policies.{policy_id_text}
use Rattle.cedar_errors.specs.Errors.{error_loc}
use Rattle.cedar_errors.specs.Failures.{failure_of}
use Rattle.cedar_authorizer.specs.declared.responses.response.Response.{Response}
use Rattle.cedar_authorizer.specs.declared.responses.err.AuthorizationError.{AuthorizationError}
use Rattle.cedar_authorizer.specs.declared.responses.err.AuthorizationError.TheVariants.{PolicyEvaluationError}

-- a set of ids
abbrev pub PolicyIDs : Type 0
PolicyIDs = HashSet PolicyID (BuildHasherDefault FoldHasher)

-- whether the text is among these ids
abbrev pub has_id : PolicyIDs → Text → Bool
has_id ids t = list_any (λ (i : PolicyID). text_eq t (policy_id_text i)) ids.keys

-- an error under the id of the policy that erred
abbrev pub error_view : AuthorizationError → Text × Failure
error_view (PolicyEvaluationError id e) = (policy_id_text id, failure_of e)

abbrev pub errors_view : List AuthorizationError → List (Text × Failure)
errors_view es = map error_view es

-- where the errors arose
abbrev pub error_place : AuthorizationError → Option Loc
error_place (PolicyEvaluationError id e) = error_loc e

abbrev pub error_places : List AuthorizationError → List (Option Loc)
error_places es = map error_place es

-- a response as plain data, without the places of its errors
abbrev pub response_view : Response → Authorized
response_view r =
    record {
      decided_as = decision_view r.decision;
      is_reason = has_id r.diagnostics.reason;
      errors = errors_view r.diagnostics.errors.items;
    }

-- where its errors arose
abbrev pub response_places : Response → List (Option Loc)
response_places r = error_places r.diagnostics.errors.items
