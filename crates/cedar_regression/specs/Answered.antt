-- What the policies of a text answer to what is asked.
use Rattle.std.specs.Prelude.{◌≡◌, None}
use Rattle.cedar_model.specs.Terms.{Text}
use Rattle.cedar_model.specs.World as world
use Rattle.cedar_model.specs.Rules.{StoredCalls}
use Rattle.cedar_decisions.specs.Decisions.{mode_view}
use Rattle.cedar_model.specs.Agreement.{HasNothingUnknown}
use Rattle.cedar_layers.specs.declared.policies.entities.Entities.{Entities}
use Rattle.cedar_layers.specs.declared.policies.policy_set.PolicySet.{PolicySet}
use Rattle.cedar_layers.specs.PolicySets.{policies_view}
use Rattle.cedar_requests.specs.declared.request.Request.{Request}
use Rattle.cedar_text_parser.specs.PolicyReading.{AreAllRead}
use Rattle.cedar_text_parser.specs.declared.policies.ParsedPolicies.{ParsedPolicies}
use Rattle.cedar_authorizer.specs.declared.responses.response.Response.{Response}
use Rattle.cedar_authorizer.specs.responses.Responses.{response_view}
use Rattle.cedar_expectations.specs.Answers.{AnswerView}
use Rattle.cedar_cli.specs.declared.asked.Asked.{Asked}
use Rattle.cedar_cli.specs.declared.asked.Way.{Way}
use Rattle.cedar_cli.specs.Authorized.{setting_of, IsResponseTo, IsExact}
use Rattle.cedar_cli.specs.Questions.{levels, IsWholeRequest, IsKnownStore}
use Rattle.cedar_cli.specs.Standard.{standard_extensions, standard_calls, standard_knowledge}
use Rattle.cedar_expectations.specs.Named.{IsAnswerIn}

-- of these policies and this store: there is a request that is asked, and a response to it, which says this
pub record IsAnswerOver (X : world.Extensions) (calls : StoredCalls) (ps : PolicySet) (s : Entities) (w : Way)
    (q : Asked) (a : AnswerView) : Type 0 where
  pub request : Request
  pub response : Response
  pub request_is : IsWholeRequest X calls q request
  pub response_is : IsResponseTo X calls ps s request w (response_view response)
  pub answer_is : IsAnswerIn (policies_view ps) response a

-- the whole: there are policies, entities, a request and a response, of which all of this is so
pub record IsAnswerOf (text : Text) (w : Way) (q : Asked) (a : AnswerView) : Type 0 where
  pub parsed : ParsedPolicies
  pub entities : Entities
  pub request : Request
  pub response : Response
  -- the policies are those that the text's tokens derive
  pub policies_are : AreAllRead standard_knowledge text levels parsed
  -- the entities, each with all its ancestors, and the request are those that the texts say
  pub store_is : IsKnownStore standard_extensions standard_calls q entities
  pub request_is : IsWholeRequest standard_extensions standard_calls q request
  -- nothing is unknown in them
  pub nothing_unknown : HasNothingUnknown (setting_of standard_extensions request entities)
  -- decision, reasons and errors are those of the policies; without a limit that is set, exactly
  pub response_is :
      IsResponseTo standard_extensions standard_calls parsed.policies entities request w (response_view response)
  pub exact : w.limit ≡ None
      → IsExact (mode_view w.error_handling) parsed.policies entities request (response_view response)
  -- and it is that response that the answer says
  pub answer_is : IsAnswerIn (policies_view parsed.policies) response a
