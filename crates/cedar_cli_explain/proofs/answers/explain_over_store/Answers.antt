use Rattle.cedar_cli_explain.proofs.answers.explain_over_store.Goals as goal

pub returns-clause-answered : goal.returns-clause-answered
returns-clause-answered g c = record {
  request = c.in_ok-request.request;
  request_is = c.in_ok-request.ensures.asked;
  explained = c.in_ok-explanation.ensures;
}
