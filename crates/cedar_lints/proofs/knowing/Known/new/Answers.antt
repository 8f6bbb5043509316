use Rattle.cedar_model.specs.Settings.{is_among}
use Rattle.cedar_lints.specs.Knowing.{has_entity, has_type}
use Rattle.cedar_lints.proofs.knowing.Known.new.Goals as goal

pub returns : goal.returns
unfolding is_among
returns c = λ i. record
    { types = has_type (c.new-types.ensures.empty i); entities = has_entity (c.new-entities.ensures.empty i) }
