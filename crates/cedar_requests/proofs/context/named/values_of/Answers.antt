use Rattle.std.proofs.Common.{◌≡◌, ◌∷◌, List, ap, sym, ◌∙◌}
use Rattle.std.specs.Vec.Iter.{into_iter_items}
use Rattle.cedar_model.specs.Refusals.{first_repeated_after}
use Rattle.cedar_values.specs.Sound.{whats_at}
use Rattle.cedar_requests.specs.Named.{Named, names_given, entry_names, put_values}
use Rattle.cedar_requests.proofs.context.named.values_of.Goals as goal

pub pairs-preserved : goal.pairs-preserved
pairs-preserved c =
    let es = c.pairs.values.entries in
    let more = into_iter_items c.next.new.self in
    let next : into_iter_items c.pairs.name-iterator ≡ (c.in-Some.name, c.in-Some.value) ∷ more = c.in-Some.ensures.steps.0 in
    record {
      values = ap (λ fs. put_values fs more) c.in_ok-put_named.ensures.values ∙ ap (put_values (whats_at es)) (sym next)
          ∙ c.pairs.invariant.values;
      names = sym (c.in_ok-put_named.ensures.names (names_given more))
          ∙ ap (λ (ps : List Named). first_repeated_after (entry_names es) (names_given ps)) (sym next)
          ∙ c.pairs.invariant.names;
    }
