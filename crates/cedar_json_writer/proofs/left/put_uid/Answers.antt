use Rattle.std.proofs.Common.{◌≡◌, [], ◌∷◌, ◌++◌, map, ap, ◌∙◌}
use Rattle.json.specs.Json.{string}
use Rattle.cedar_model.specs.Terms.{Text}
use Rattle.cedar_model.specs.Settings.{printed_entity}
use Rattle.cedar_names.specs.Names.{uid_name}
use Rattle.cedar_layers.proofs.Stores.{entity_text-printed}
use Rattle.cedar_json_writer.specs.Trees.{json_view}
use Rattle.cedar_json_writer.proofs.left.put_uid.Goals as goal

pub returns : goal.returns
returns c =
    let e = uid_name c.args.uid.now in
    let printed : c.as_str.result.now ≡ printed_entity e = c.as_str.ensures.value ∙ c.in_ok-text.ensures.ok ∙ entity_text-printed e in
    c.in_ok-put_text.ensures ∙ ap (λ (t : Text). map json_view c.args.items.now.items ++ string t ∷ []) printed
