use Rattle.cedar_laws.specs.Faithful.{PartHoldsNoExtensionValue}
use Rattle.cedar_faithful.proofs.Stored.{store_holds, alike_holds}
use Rattle.cedar_faithful.proofs.given.stores_hold_what_entities_hold.Goals as goal

pub returns-clause-whole : goal.returns-clause-whole
returns-clause-whole c = store_holds PartHoldsNoExtensionValue

pub returns-clause-alike : goal.returns-clause-alike
returns-clause-alike c = alike_holds PartHoldsNoExtensionValue c.args.entities.now
