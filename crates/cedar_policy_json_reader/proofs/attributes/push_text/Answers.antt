use Rattle.std.proofs.Common.{[], ◌∷◌, ◌++◌, ap, ◌∙◌, rules}
use Rattle.std.specs.Rc.{rc_str_bytes}
use Rattle.cedar_model.specs.Terms.{Text}
use Rattle.cedar_names.specs.Leaves.{texts_view}
use Rattle.cedar_policy_json_reader.proofs.Lists.{one_mapped}
use Rattle.cedar_policy_json_reader.proofs.attributes.push_text.Goals as goal

pub returns-in-Ok-push-clause-said : goal.returns-in-Ok-push-clause-said
returns-in-Ok-push-clause-said c =
    one_mapped rc_str_bytes c.args.texts.now.items c.push.new.self.items c.in-Ok.text (search rules)
    ∙ ap (λ (k : Text). texts_view c.args.texts.now.items ++ k ∷ []) c.in-Ok.ensures.ok
