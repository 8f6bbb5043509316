use Rattle.std.proofs.Common.{◌≡◌, ◌∷◌, ap, sym, ◌∙◌}
use Rattle.std.specs.Vec.Iter.{into_iter_items}
use Rattle.cedar_expressions.specs.View.{fields_view}
use Rattle.cedar_expressions.specs.Nodes.{with_entries}
use Rattle.cedar_model.specs.Refusals.{first_repeated_after}
use Rattle.cedar_expressions.specs.Records.{keys_view}
use Rattle.cedar_expressions.proofs.expr.Expr.record.Goals as goal

pub pairs-preserved : goal.pairs-preserved
pairs-preserved c =
    let es = c.pairs.fields.entries in
    let more = into_iter_items c.next.new.self in
    let next : into_iter_items c.pairs.key-iterator ≡ (c.in-Some.key, c.in-Some.part) ∷ more = c.in-Some.ensures.steps.0 in
    let put = ap (λ fs. with_entries fs more) c.in_ok-put_new.ensures.entries ∙ ap (with_entries es) (sym next) in
    record {
      entries = put ∙ c.pairs.invariant.entries;
      fields = ap fields_view put ∙ c.pairs.invariant.fields;
      keys = sym (c.in_ok-put_new.ensures.keys (keys_view more))
          ∙ ap (λ ps. first_repeated_after (keys_view es) (keys_view ps)) (sym next) ∙ c.pairs.invariant.keys;
    }
