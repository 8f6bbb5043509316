use Rattle.cedar_cli.proofs.decisions.authorize_over_store.Goals as goal

pub returns-clause-answered : goal.returns-clause-answered
returns-clause-answered g c = record {
  request = c.in_ok-request.request;
  response = c.in_ok-response.response;
  request_is = c.in_ok-request.ensures.asked;
  response_is = c.in_ok-response.ensures;
  printed = c.in_ok-printed.ensures;
}
