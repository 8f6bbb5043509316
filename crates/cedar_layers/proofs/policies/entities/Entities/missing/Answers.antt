use Rattle.std.proofs.Common.{◌≡◌, sym, ap, ◌∙◌, Some, option_map}
use Rattle.std.specs.Rc.{rc_str_bytes}
use Rattle.cedar_model.specs.Terms.{Text, entity_type, unknown}
use Rattle.cedar_model.specs.Settings.{printed_entity}
use Rattle.cedar_names.specs.Names.{name_text, uid_name}
use Rattle.cedar_names.specs.Leaves.{type_view}
use Rattle.cedar_layers.proofs.Stores.{entity_text-printed}
use Rattle.cedar_layers.proofs.policies.entities.Entities.missing.Goals as goal

pub returns : goal.returns
returns c =
    let copied = c.in_ok-clone.ensures.cases in
    let name : rc_str_bytes c.new_with_type.result.name ≡ printed_entity (uid_name c.args.uid.now) = ap rc_str_bytes c.new_with_type.ensures.name ∙ c.in_ok-name.ensures.ok ∙ c.in_ok-to_string.ensures.ok ∙ entity_text-printed (uid_name c.args.uid.now) in
    let annotation : option_map type_view c.new_with_type.result.type_annotation ≡ Some (entity_type (uid_name c.args.uid.now).type_name) = ap (option_map type_view) c.new_with_type.ensures.annotation ∙ ap (λ (t : Text). Some (entity_type t)) (ap name_text (sym copied.3) ∙ copied.4.0 ∙ ap name_text copied.2 ∙ c.entity_type.ensures.text) in
    λ i. unknown (name i) (annotation i)
