use Rattle.std.proofs.Common.{◌∙◌, ap, map}
use Rattle.cedar_names.specs.Names.{uid_name}
use Rattle.cedar_layers.specs.Stores.{entity_view}
use Rattle.cedar_lints.specs.Knowing.{known_view, with_each}
use Rattle.cedar_lints.proofs.knowing.Known.add_stored.Goals as goal

pub returns : goal.returns
returns c =
    c.in_ok-add_each.ensures ∙ ap (λ us. with_each (known_view c.add.new.self) (map uid_name us))
    c.ancestors.ensures.whole
    ∙ ap (λ k. with_each k (entity_view c.args.entity.now).ancestors) c.in_ok-add.ensures
