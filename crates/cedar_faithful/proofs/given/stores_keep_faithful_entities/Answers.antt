use Rattle.cedar_model.specs.Agreement.{IsFaithfulPart}
use Rattle.cedar_faithful.proofs.Stored.{store_holds, alike_holds}
use Rattle.cedar_faithful.proofs.given.stores_keep_faithful_entities.Goals as goal

pub returns-clause-whole : goal.returns-clause-whole
returns-clause-whole c = λ X ans. store_holds (IsFaithfulPart X ans)

pub returns-clause-alike : goal.returns-clause-alike
returns-clause-alike c = λ X ans. alike_holds (IsFaithfulPart X ans) c.args.entities.now
