use Rattle.cedar_cli.proofs.batch.answer_over_given_store.Goals as goal

pub returns-clause-answered : goal.returns-clause-answered
returns-clause-answered g c = record {
  entities = c.in_ok-store.store.entities;
  store_is = c.in_ok-store.ensures.given;
  answered = c.in_ok-printed.ensures;
}
