use Rattle.cedar_cli.proofs.stores.given_store.Goals as goal

pub returns-in-Some-clause-refused : goal.returns-in-Some-clause-refused
returns-in-Some-clause-refused g c = rw c.in-Some.is c.store_of.ensures.refused
