use Rattle.std.proofs.Common.{◌+◌, ◌++◌, [], ◌∷◌, ◌∙◌, ap, drop, length, arith}
use Rattle.std.proofs.lemmas.List.{drop_all, map-append}
use Rattle.std.specs.Rc.{rc_str_bytes}
use Rattle.cedar_model.specs.Sets.{represented_fields_size, represented_values_of}
use Rattle.cedar_values.specs.Sound.{whats, whats_at}
use Rattle.cedar_lints.specs.Paths.{alike_at, alike_below, alike_each, names_seen, paths_view}
use Rattle.cedar_lints.proofs.Passing.{cut_back, drop_next, pushed_more, pushed_all}
use Rattle.cedar_lints.proofs.Smaller.{element_smaller}
use Rattle.cedar_lints.proofs.paths.+walk.Goals as goal

pub push_paths_of_each-push_paths-requires : goal.push_paths_of_each-push_paths-requires
push_paths_of_each-push_paths-requires t c = (
  omega (
    arith,
    element_smaller c.args.values.now c.values.value-index c.value-item.result c.values-test.true c.value-item.is,
  ),
  tt,
)

pub push_paths_of_each-values-preserved : goal.push_paths_of_each-values-preserved
push_paths_of_each-values-preserved t c =
    let xs = c.args.values.now in
    let i = c.values.value-index in
    let x = c.value-item.result in
    let p = names_seen c.args.path.now.items in
    record {
      stays = c.in_ok-push_paths.ensures.path ∙ c.values.invariant.stays;
      same =
          pushed_more _ _ _ (alike_below p x.what) (alike_each p (represented_values_of (whats (drop (i + 1) xs))))
          (alike_each p (represented_values_of (whats (drop i xs))))
          (ap (λ ys. alike_each p (represented_values_of (whats ys)))
          (drop_next xs i x c.values-test.true c.value-item.is))
          (c.in_ok-push_paths.ensures.found
          ∙ ap (λ q. paths_view c.values.found.items ++ alike_below (names_seen q) x.what) c.values.invariant.stays)
          c.values.invariant.same;
    }

pub push_paths_of_each-returns-clause-path : goal.push_paths_of_each-returns-clause-path
push_paths_of_each-returns-clause-path t c = c.values.invariant.stays

pub push_paths_of_each-returns-clause-found : goal.push_paths_of_each-returns-clause-found
push_paths_of_each-returns-clause-found t c =
    let p = names_seen c.args.path.now.items in
    pushed_all _ _ _
    (ap (λ ys. alike_each p (represented_values_of (whats ys)))
    (drop_all c.values.value-index c.args.values.now c.values-test.false)) c.values.invariant.same

pub push_paths_at-pairs-preserved : goal.push_paths_at-pairs-preserved
push_paths_at-pairs-preserved t c =
    let k = rc_str_bytes c.in-Some.name.now in
    let v = c.in-Some.value.now in
    let p = names_seen c.args.path.now.items in
    let less = ap (λ es. represented_fields_size (whats_at es)) c.in-Some.ensures.steps in
    record {
      stays = c.in_ok-push_paths_under.ensures.path ∙ c.pairs.invariant.stays;
      same =
          pushed_more _ _ _ (alike_below (p ++ k ∷ []) v.what) (alike_at p (whats_at c.next.new.self))
          (alike_at p (whats_at c.pairs.name-iterator))
          (ap (λ es. alike_at p (whats_at es)) c.in-Some.ensures.steps)
          (c.in_ok-push_paths_under.ensures.found
          ∙ ap (λ q. paths_view c.pairs.found.items ++ alike_below (names_seen q ++ k ∷ []) v.what)
          c.pairs.invariant.stays)
          c.pairs.invariant.same;
      smaller = omega (arith, c.pairs.invariant.smaller);
    }

pub push_paths_at-returns-clause-path : goal.push_paths_at-returns-clause-path
push_paths_at-returns-clause-path t c = c.pairs.invariant.stays

pub push_paths_at-returns-clause-found : goal.push_paths_at-returns-clause-found
push_paths_at-returns-clause-found t c =
    let p = names_seen c.args.path.now.items in
    pushed_all _ _ _ (ap (λ es. alike_at p (whats_at es)) c.in-None.ensures.steps.0) c.pairs.invariant.same

pub push_paths_under-returns-clause-path : goal.push_paths_under-returns-clause-path
push_paths_under-returns-clause-path t c =
    cut_back c.args.path.now.items c.push.new.self.items c.push_paths.new.path.items c.truncate.new.self.items
    (length c.as_slice-above.result.now) c.args.name (ap length c.as_slice-above.ensures.value)
    c.in_ok-push.ensures.items c.in_ok-push_paths.ensures.path c.truncate.ensures.items

pub push_paths_under-returns-clause-found : goal.push_paths_under-returns-clause-found
push_paths_under-returns-clause-found t c =
    c.in_ok-push_paths.ensures.found
    ∙ ap (λ q. paths_view c.args.found.now.items ++ alike_below q c.args.value.now.what)
    (ap names_seen c.in_ok-push.ensures.items
    ∙ map-append (λ n. rc_str_bytes n.now) c.args.path.now.items (c.args.name ∷ []))
