use Rattle.std.proofs.Common.{List, [], ◌∷◌, ◌++◌, ap, ◌∙◌, rules, Global}
use Rattle.std.specs.Rc.{rc_str_bytes}
use Rattle.std.specs.declared.rc.RcStr.{RcStr}
use Rattle.cedar_model.specs.Terms.{Text}
use Rattle.cedar_expressions.specs.declared.expr.Expr.{Expr}
use Rattle.cedar_expressions.specs.Records.{pairs_view}
use Rattle.cedar_expressions.specs.View.{view}
use Rattle.cedar_policy_json_reader.proofs.Lists.{one_mapped}
use Rattle.cedar_policy_json_reader.proofs.making.put_pair.Goals as goal

pub returns-in-Ok-push-clause-said : goal.returns-in-Ok-push-clause-said
returns-in-Ok-push-clause-said c =
    one_mapped (λ (p : RcStr Global × Expr). (rc_str_bytes p.0, view p.1)) c.args.pairs.now.items c.push.new.self.items (c.in-Ok.key, c.args.expr) (search rules)
    ∙ ap (λ (k : Text). pairs_view c.args.pairs.now.items ++ (k, view c.args.expr) ∷ []) c.in-Ok.ensures.ok
