use Rattle.std.proofs.Common.{◌≡◌, ◌+◌, suc, length, drop, sym, ap, ◌∙◌, subst, arith}
use Rattle.std.proofs.lemmas.List.{length_push}
use Rattle.cedar_model.specs.Terms.{one_term}
use Rattle.cedar_model.specs.Failures.{answers_value}
use Rattle.cedar_model.specs.Rules.{Runs}
use Rattle.cedar_expressions.specs.View.{view, terms_view}
use Rattle.cedar_restricted.specs.Steps.{next_is, none_left}
use Rattle.cedar_interpreter.specs.Settings.{evaluation_setting, calls_in}
use Rattle.cedar_interpreter.proofs.DirectEvaluatorLaws.{none_so_far, more_so_far, all_so_far}
use Rattle.cedar_interpreter.proofs.direct_evaluators.EvaluatorAbove.values.Goals as goal

pub parts-init : goal.parts-init
parts-init g c = record {
  many = sym (ap length c.in_ok-values.ensures.items);
  bound = omega arith;
  direct = none_so_far c.args.within.now g.T.DirectEvaluator.height (terms_view c.args.parts.now) _ c.in_ok-values.ensures.items;
}

pub parts-preserved : goal.parts-preserved
parts-preserved g c =
    let es = c.args.parts.now in
    let l = c.parts in
    let v = c.standing_at.result in
    let e = c.part-item.result in
    let i = l.part-index in
    let next : suc i ≡ i + 1 = omega arith in
    record {
      many = ap (λ n. n + 1) l.invariant.many ∙ sym (length_push l.values.items v) ∙ ap length (sym c.in_ok-push-in-Some.ensures.items);
      bound = let more = c.parts-test.true in omega (arith, more);
      direct = more_so_far c.args.within.now g.T.DirectEvaluator.height (terms_view es) (terms_view (drop i es)) (terms_view (drop (i + 1) es)) (view e) l.values.items v _ l.invariant.direct
          (subst (λ n. terms_view (drop i es) ≡ one_term (view e) (terms_view (drop n es))) next (next_is es i e c.parts-test.true c.part-item.is))
          (λ r k speaks low. subst (λ w. Runs (evaluation_setting r c.args.within.now) (calls_in c.args.within.now) k (view e) (answers_value w)) (sym c.standing_at.ensures.what) (c.in-Some.ensures r k speaks low))
          c.in_ok-push-in-Some.ensures.items;
    }

pub returns : goal.returns
returns g c =
    let es = c.args.parts.now in
    let l = c.parts in
    let last = c.parts-test.false in
    let before = l.invariant.bound in
    let ended : l.part-index ≡ length es = omega (arith, last, before) in (
      sym l.invariant.many ∙ ended,
      all_so_far c.args.within.now g.T.DirectEvaluator.height (terms_view es) (terms_view (drop l.part-index es)) l.values.items l.invariant.direct (none_left es l.part-index ended),
    )
