-- The response to the whole request with a candidate.
use Rattle.std.proofs.Common.{◌≡◌, subst, Result, Ok, Err, IfOk}
use Rattle.std.specs.declared.alloc.AllocError.{AllocError}
use Rattle.cedar_model.specs.Terms.{EntityName}
use Rattle.cedar_model.specs.Settings.{Setting}
use Rattle.cedar_authorizer.specs.declared.responses.response.Response.{Response}
use Rattle.cedar_authorizer.specs.responses.Responses.{response_view}
use Rattle.cedar_authorizer.specs.Responding.{IsKnownResponse, MeetsNoLimit}
use Rattle.cedar_authorizer.specs.Running.{IsConcreteRun}
use Rattle.cedar_search.specs.Questions.{Question, asked_with}
use Rattle.cedar_search.specs.Found.{IsResponseTo}

pub response_to : (q : Question) (e : EntityName) (s : Setting) → s ≡ asked_with q e → (o : Result Response AllocError)
    → IfOk o (λ a. IsConcreteRun q.configuration s q.policies (response_view a))
    → IfOk o (λ a. IsKnownResponse q.configuration s q.policies (response_view a))
    → IfOk o (λ a. MeetsNoLimit q.configuration s q.policies (response_view a).errors)
    → IfOk o (λ a. IsResponseTo q e (response_view a))
response_to q e s same (Ok a) run known limit = record {
  by_rules = subst (λ t. IsConcreteRun q.configuration t q.policies (response_view a)) same run;
  by_meaning = subst (λ t. IsKnownResponse q.configuration t q.policies (response_view a)) same known;
  within_limit = subst (λ t. MeetsNoLimit q.configuration t q.policies (response_view a).errors) same limit;
}
response_to q e s same (Err x) run known limit = tt
