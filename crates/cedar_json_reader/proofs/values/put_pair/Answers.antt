use Rattle.std.proofs.Common.{◌∙◌, ◌∷◌, [], ◌++◌, ap, rules}
use Rattle.cedar_model.specs.Terms.{Text}
use Rattle.cedar_restricted.specs.Views.{restricted_term}
use Rattle.cedar_json_reader.specs.Lists.{pairs_said}
use Rattle.cedar_json_reader.proofs.Reading.{pair_read}
use Rattle.cedar_json_reader.proofs.values.put_pair.Goals as goal

pub returns-in-Ok-push-clause-said : goal.returns-in-Ok-push-clause-said
returns-in-Ok-push-clause-said c =
    pair_read c.args.pairs.now.items c.push.new.self.items (c.in-Ok.key, c.args.expr) (search rules)
    ∙ ap (λ (k : Text). pairs_said c.args.pairs.now.items ++ (k, restricted_term c.args.expr) ∷ []) c.in-Ok.ensures.ok
