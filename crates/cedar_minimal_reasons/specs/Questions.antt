-- What is decided, and what is decided of it where some facts alone are kept.
use Rattle.std.specs.Prelude.{◌≡◌, List, Option, Some, None, IfSome, cond}
use Rattle.cedar_model.specs.World.{World, Functions}
use Rattle.cedar_model.specs.Settings.{RequestPart, Setting}
use Rattle.cedar_model.specs.Configurations.{Configuration}
use Rattle.cedar_model.specs.Agreement.{CompletesWith}
use Rattle.cedar_model.specs.Chains.{has_limit}
use Rattle.cedar_model.specs.Policies as model
use Rattle.cedar_model.specs.Reports.{given_decision}
use Rattle.cedar_model.specs.Responses.{FitPolicies}
use Rattle.cedar_layers.specs.declared.policies.entities.Entity.{Entity}
use Rattle.cedar_requests.specs.Requests.{request_view}
use Rattle.cedar_reasons.specs.Facts.{KnownFact, lent, every_fact}
use Rattle.cedar_reasons.specs.Reduced.{reduced_request, reduced_store}
use Rattle.cedar_authorizer.specs.declared.authorizer.Authorizer.{Authorizer}
use Rattle.cedar_authorizer.specs.declared.responses.partial_response.PartialResponse.{PartialResponse}
use Rattle.cedar_authorizer.specs.responses.Rows.{rows_view}
use Rattle.cedar_authorizer.specs.Configured.{configuration, asked_of}
use Rattle.cedar_authorizer.specs.Responding.{considered}
use Rattle.cedar_authorizer.specs.Running.{errors_of, IsRun, ResponseStands}
use Rattle.cedar_minimal_reasons.specs.declared.cases.Case.{Case}

-- how an authorizer is configured, what is asked, of which entities there are, and by which policies
pub record Question : Type 1 where
  pub configuration : Configuration
  pub request : RequestPart
  pub entities : List Entity
  pub policies : List model.Policy

abbrev pub question : {X : Type 0} {F : X → Type 0} {g : _} → Authorizer X F g → Case → Question
question a c = record {
  configuration = configuration a;
  request = request_view c.request.now;
  entities = lent c.entities.now;
  policies = considered c.policies.now;
}

-- all that is known of what is asked
abbrev pub all_of : Question → List KnownFact
all_of q = every_fact q.request.context_part q.entities

-- what is asked where these facts alone are kept
abbrev pub asked_with : Question → List KnownFact → Setting
asked_with q fs = asked_of q.configuration (reduced_request fs q.request) (reduced_store fs q.entities)

-- what the core call answers to that: a run of the policies, which stands in every completion
pub record IsResponseTo (q : Question) (fs : List KnownFact) (r : PartialResponse) : Type 0 where
  pub run : IsRun q.configuration (asked_with q fs) q.policies r
  pub stands : ResponseStands q.configuration (asked_with q fs) q.policies r

-- the decision that a response gives; none, where the recursion limit is recorded
abbrev pub settled : PartialResponse → Option model.Decision
settled r = cond (has_limit (errors_of r)) None (given_decision (rows_view r))

-- the core call gives this decision by these facts alone, or gives none
pub record Answers (q : Question) (fs : List KnownFact) (o : Option model.Decision) : Type 0 where
  pub response : PartialResponse
  pub responds : IsResponseTo q fs response
  pub decides : o ≡ settled response

-- this is the decision of the policies in every completion of the request and the store of which these facts alone are known
abbrev pub Decides : Question → List KnownFact → model.Decision → Type 0
Decides q fs d =
    (ans : Functions) (w : World) → CompletesWith q.configuration.calls ans w (asked_with q fs)
    → FitPolicies ans w q.policies
    → model.decision (model.counted_each q.configuration.mode q.configuration.extensions ans w q.policies) ≡ d
