use Rattle.std.proofs.Common.{◌≡◌, ◌∷◌, true, false, ap, sym, ◌∙◌, subst}
use Rattle.std.specs.BTreeMap.{is_at}
use Rattle.std.specs.Map.{lookup}
use Rattle.std.specs.Option.{is_some}
use Rattle.cedar_expressions.specs.Nodes.{key_order}
use Rattle.cedar_expressions.specs.Records.{repeated_key}
use Rattle.cedar_model.specs.Refusals.{first_repeated_after}
use Rattle.cedar_values.specs.Sound.{whats_at}
use Rattle.cedar_requests.specs.Named.{entry_names, put_value, IsRefusalOfName}
use Rattle.cedar_requests.proofs.Named.{put_value-entries, names-step, repeated-here}
use Rattle.cedar_requests.proofs.context.named.put_named.Goals as goal

pub returns-then-contains_key-clause-refused : goal.returns-then-contains_key-clause-refused
returns-then-contains_key-clause-refused c =
    let es = c.args.values.now.entries in
    let key = c.in_ok-key.key in
    let there : is_some (lookup (is_at (key_order key)) es) ≡ true = sym c.contains_key.ensures ∙ c.if-contains_key.true in
    subst (λ k. IsRefusalOfName (repeated_key (entry_names es) k) c.refuse_duplicate_name.result) c.in_ok-key.ensures.ok
    (subst (λ o. IsRefusalOfName o c.refuse_duplicate_name.result) (repeated-here es key there) c.refuse_duplicate_name.ensures)

pub returns-clause-values : goal.returns-clause-values
returns-clause-values c =
    ap whats_at c.in_ok-insert.ensures.entries ∙ put_value-entries c.args.values.now.entries c.in_ok-key.key c.args.value
    ∙ ap (λ k. put_value (whats_at c.args.values.now.entries) k c.args.value.what) c.in_ok-key.ensures.ok

pub returns-clause-names : goal.returns-clause-names
returns-clause-names c =
    let es = c.args.values.now.entries in
    let key = c.in_ok-key.key in
    let absent : is_some (lookup (is_at (key_order key)) es) ≡ false = sym c.contains_key.ensures ∙ c.if-contains_key.false in
    λ more. ap (λ k. first_repeated_after (entry_names es) (k ∷ more)) (sym c.in_ok-key.ensures.ok) ∙ names-step es key _ more absent
    ∙ ap (λ fs. first_repeated_after (entry_names fs) more) (sym c.in_ok-insert.ensures.entries)
