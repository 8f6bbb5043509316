use Rattle.std.proofs.Common.{sym}
use Rattle.cedar_layers.proofs.Stores.{found_in-some, found_in-none, found_in-unknown}
use Rattle.cedar_layers.proofs.policies.entities.Entities.entity.Goals as goal

pub returns-in-Some-clause-found : goal.returns-in-Some-clause-found
returns-in-Some-clause-found c = found_in-some _ _ c.args.self.now.partial (sym c.in-Some.ensures.view)

pub returns-in_ok-missing-in-None-clause-found : goal.returns-in_ok-missing-in-None-clause-found
returns-in_ok-missing-in-None-clause-found c = found_in-unknown _ _ (sym c.in-None.ensures.view) c.if-self.true

pub returns-else-self-clause-found : goal.returns-else-self-clause-found
returns-else-self-clause-found c = found_in-none _ _ (sym c.in-None.ensures.view) c.if-self.false
