use Rattle.std.proofs.Common.{◌∙◌, ap, not}
use Rattle.cedar_model.specs.Values.{abstract_values}
use Rattle.cedar_values.proofs.SetSizes.{has_some-turned}
use Rattle.cedar_values.proofs.value.Set.is_disjoint.Goals as goal

pub returns-then-len : goal.returns-then-len
returns-then-len c =
    c.none_is_in.ensures ∙ ap not (has_some-turned (abstract_values c.args.other.now.all) (abstract_values c.args.self.now.all))
