use Rattle.std.proofs.Common.{◌∙◌, ap}
use Rattle.cedar_lints.specs.Knowing.{has_type, with_type}
use Rattle.cedar_lints.proofs.knowing.Known.add.Goals as goal

pub returns : goal.returns
returns c = λ i. record {
  types = (c.in_ok-put_type.ensures ∙ ap (with_type (has_type c.args.self.now.types.keys)) c.entity_type.ensures.text)
      i;
  entities = c.in_ok-put_entity.ensures i;
}
