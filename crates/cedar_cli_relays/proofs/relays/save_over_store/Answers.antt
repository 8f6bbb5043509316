use Rattle.cedar_cli_relays.proofs.relays.save_over_store.Goals as goal

pub returns-clause-answered : goal.returns-clause-answered
returns-clause-answered g c = record {
  first = c.in_ok-stages.stages.first;
  later = c.in_ok-stages.stages.later.items;
  stages = c.in_ok-stages.ensures.stages;
  saved = c.in_ok-saved.ensures;
}
