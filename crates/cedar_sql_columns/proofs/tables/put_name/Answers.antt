use Rattle.std.proofs.Common.{[], ◌∷◌, ◌++◌, ap, ◌∙◌, map, rules}
use Rattle.std.specs.Rc.{rc_str_bytes}
use Rattle.cedar_model.specs.Terms.{Text}
use Rattle.cedar_sql_columns.proofs.Lists.{one_mapped}
use Rattle.cedar_sql_columns.proofs.tables.put_name.Goals as goal

pub returns-in-Ok-push-clause-said : goal.returns-in-Ok-push-clause-said
returns-in-Ok-push-clause-said c =
    one_mapped rc_str_bytes c.args.names.now.items c.push.new.self.items c.in-Ok.name (search rules)
    ∙ ap (λ (k : Text). map rc_str_bytes c.args.names.now.items ++ k ∷ []) c.in-Ok.ensures.ok
