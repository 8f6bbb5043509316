use Rattle.cedar_authorizer.specs.responses.Responses.{response_view}
use Rattle.cedar_search.proofs.asking.is_allowed.Goals as goal

pub returns : goal.returns
returns g c = record {
  response = response_view c.in_ok-response.response;
  responds = c.in_ok-response.ensures;
  is_decision = c.is_allow.ensures;
}
