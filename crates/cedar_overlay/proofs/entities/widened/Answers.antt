use Rattle.std.proofs.Common.{List, ap, ◌∙◌, map}
use Rattle.cedar_names.specs.Names.{uid_name}
use Rattle.cedar_names.specs.declared.names.EntityUID.{EntityUID}
use Rattle.cedar_layers.specs.Stores.{stored_entity}
use Rattle.cedar_hierarchy.specs.Sorting.{named_in}
use Rattle.cedar_overlay.specs.Adding.{with_recorded}
use Rattle.cedar_overlay.proofs.entities.widened.Goals as goal

pub returns-in-Ok : goal.returns-in-Ok
returns-in-Ok c =
    let stored = stored_entity c.args.entities.now in record {
      parts = record {
        uid = c.with_ancestors.ensures.uid;
        attributes = c.with_ancestors.ensures.attributes;
        tags = c.with_ancestors.ensures.tags;
      };
      ancestors =
          ap named_in c.with_ancestors.ensures.ancestors ∙ c.in-Ok.ensures
          ∙ ap (λ (us : List EntityUID). with_recorded (named_in us) stored (map uid_name us)) c.ancestors.ensures.whole;
    }
