use Rattle.cedar_regression.proofs.comparisons.compare_read.Goals as goal

pub returns-clause-compared : goal.returns-clause-compared
returns-clause-compared g c = record {
  entities = c.in_ok-store.store.entities;
  store_is = c.in_ok-store.ensures.given;
  compared = c.in_ok-printed.ensures;
}
