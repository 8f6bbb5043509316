use Rattle.std.proofs.Common.{◌≡◌, false, ap, sym, ◌∙◌}
use Rattle.std.specs.BTreeMap.{is_at}
use Rattle.std.specs.Map.{lookup}
use Rattle.std.specs.Option.{is_some}
use Rattle.cedar_model.specs.Refusals.{first_repeated_after}
use Rattle.cedar_expressions.specs.Records.{keys_view}
use Rattle.cedar_expressions.proofs.Records.{order, repeated-step}
use Rattle.cedar_expressions.proofs.expr.record.put_new.Goals as goal

pub returns-clause-keys : goal.returns-clause-keys
returns-clause-keys c =
    let es = c.args.fields.now.entries in
    let absent : is_some (lookup (is_at (order c.args.key)) es) ≡ false = sym c.contains_key.ensures ∙ c.if-contains_key.false in
    λ more. repeated-step es c.args.key _ more absent
    ∙ ap (λ fs. first_repeated_after (keys_view fs) more) (sym c.in_ok-insert.ensures.entries)
