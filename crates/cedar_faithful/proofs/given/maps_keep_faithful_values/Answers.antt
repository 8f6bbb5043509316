use Rattle.cedar_model.specs.Agreement.{IsFaithful}
use Rattle.cedar_faithful.proofs.Mapped.{mapped_such}
use Rattle.cedar_faithful.proofs.given.maps_keep_faithful_values.Goals as goal

pub returns : goal.returns
returns c = λ X ans. mapped_such (IsFaithful X ans) c.args.map.now.entries
