-- How an answer calls policies, and what its errors say.
use Rattle.std.specs.Prelude.{◌≡◌, ◌++◌, Bool, cond, List, [], ◌∷◌, flat_map, codes, Option, Some, None}
use Rattle.std.specs.Map.{lookup}
use Rattle.cedar_model.specs.Terms.{Text}
use Rattle.cedar_model.specs.Outcomes.{text_eq}
use Rattle.cedar_decisions.specs.Decisions.{decision_view}
use Rattle.cedar_layers.specs.Policies.{PolicyView}
use Rattle.cedar_authorizer.specs.declared.responses.response.Response.{Response}
use Rattle.cedar_authorizer.specs.declared.responses.err.AuthorizationError.{AuthorizationError}
use Rattle.cedar_authorizer.specs.responses.Responses.{has_id, error_view}
use Rattle.cedar_json_writer.specs.Errors.{Says}
use Rattle.cedar_expectations.specs.Answers.{AnswerView}

-- what a policy's annotation `id` says, if it has one
abbrev pub annotated : PolicyView → Option Text
annotated p = lookup (text_eq (codes "id")) p.annotations

abbrev pub annotation_or_id : Option Text → PolicyView → Text
annotation_or_id None p = p.id
annotation_or_id (Some name) p = name

-- how a policy is called: by that annotation or, where it has none, by its id
abbrev pub policy_name : PolicyView → Text
policy_name p = annotation_or_id (annotated p) p

-- the name of the policy, where its id is one of these
abbrev pub called_if : (Text → Bool) → PolicyView → List Text
called_if is p = cond (is p.id) (policy_name p ∷ []) []

-- the names of these policies, in the order of the set
abbrev pub called_where : (Text → Bool) → List PolicyView → List Text
called_where is = flat_map (called_if is)

-- the name of the policy of this id; of an id that no policy has, the id
abbrev pub name_under : Text → List PolicyView → Text
name_under id [] = id
name_under id (p ∷ ps) = cond (text_eq p.id id) (policy_name p) (name_under id ps)

-- the name of the policy that erred, and what its error says
abbrev pub IsErrorText : List PolicyView → AuthorizationError → Text → Type 0
IsErrorText ps e t =
    (message : Text) × Says (error_view e).1 message
    × (t ≡ name_under (error_view e).0 ps ++ (codes ": " ++ message))

-- those of these errors, in order
abbrev pub AreErrorTexts : List PolicyView → List AuthorizationError → List Text → Type 0
AreErrorTexts ps [] [] = Unit {0}
AreErrorTexts ps [] (t ∷ ts) = ⊥
AreErrorTexts ps (e ∷ es) [] = ⊥
AreErrorTexts ps (e ∷ es) (t ∷ ts) = IsErrorText ps e t × AreErrorTexts ps es ts

-- what a response says, of these policies: the decision, how those are called that determined it, and the errors
pub record IsAnswerIn (ps : List PolicyView) (r : Response) (a : AnswerView) : Type 0 where
  pub decision_is : a.decision ≡ decision_view r.decision
  pub reasons_are : a.reasons ≡ called_where (has_id r.diagnostics.reason) ps
  pub errors_are : AreErrorTexts ps r.diagnostics.errors.items a.errors

-- ---- for private clauses

-- an error's text stands behind the others
abbrev pub AddsErrorText : List PolicyView → AuthorizationError → List Text → List Text → Type 0
AddsErrorText ps e before after = (t : Text) × IsErrorText ps e t × (after ≡ before ++ t ∷ [])
