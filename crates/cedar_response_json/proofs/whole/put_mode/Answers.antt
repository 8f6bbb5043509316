use Rattle.std.proofs.Common.{◌++◌, ◌∷◌, [], ap, ◌∙◌}
use Rattle.std.specs.Prelude.{codes}
use Rattle.json.specs.Json.{string}
use Rattle.cedar_model.specs.Terms.{Text}
use Rattle.cedar_json_writer.specs.Trees.{members_seen}
use Rattle.cedar_response_json.proofs.whole.put_mode.Goals as goal

pub returns : goal.returns
returns c =
    c.in_ok-put_text.ensures ∙ ap (λ (t : Text). members_seen c.args.members.now.items ++ (codes "errorHandling", string t) ∷ []) c.mode_word.ensures
