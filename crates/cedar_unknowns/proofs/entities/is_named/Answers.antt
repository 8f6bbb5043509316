use Rattle.std.proofs.Common.{◌≡◌, ◌∙◌}
use Rattle.cedar_model.specs.Settings.{printed_entity}
use Rattle.cedar_names.specs.Names.{uid_name}
use Rattle.cedar_layers.proofs.Stores.{entity_text-printed}
use Rattle.cedar_unknowns.proofs.Standing.{is_its_text}
use Rattle.cedar_unknowns.proofs.entities.is_named.Goals as goal

pub returns : goal.returns
returns c =
    let printed : c.as_str.result.now ≡ printed_entity (uid_name c.args.uid.now) = c.as_str.ensures.value ∙ c.in_ok-text.ensures.ok ∙ entity_text-printed (uid_name c.args.uid.now) in
    c.eq.ensures ∙ is_its_text c.args.name.now c.as_str.result.now (uid_name c.args.uid.now) printed
