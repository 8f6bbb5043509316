use Rattle.std.proofs.Common.{◌++◌, ◌+◌, length, sym, ap, ◌∙◌, subst, arith}
use Rattle.std.proofs.lemmas.List.{append-nil, length_push}
use Rattle.cedar_model.specs.Failures.{answers_value}
use Rattle.cedar_model.specs.Rules.{Runs}
use Rattle.cedar_expressions.specs.View.{view, terms_view}
use Rattle.cedar_restricted.specs.Keys.{texts_of}
use Rattle.cedar_restricted.proofs.Collected.{names_under, name_added, keys_in_order}
use Rattle.cedar_interpreter.specs.Settings.{evaluation_setting, calls_in}
use Rattle.cedar_interpreter.specs.DirectEvaluators.{parts_under}
use Rattle.cedar_interpreter.proofs.DirectEvaluatorLaws.{more_so_far, all_so_far}
use Rattle.cedar_interpreter.proofs.direct_evaluators.EvaluatorAbove.pairs.Goals as goal

pub pairs-preserved : goal.pairs-preserved
pairs-preserved g c =
    let all = c.args.pairs.now.entries in
    let left = c.next.new.self in
    let l = c.pairs in
    let v = c.standing_at.result in
    let part = c.in-Some.part.now in
    let keys = c.in_ok-push-in-Some-evaluate-2.ensures.items in
    let values = c.in_ok-push-in-Some-evaluate.ensures.items in
    let steps = c.in-Some.ensures.steps in
    record {
      names = ap (λ ks. texts_of ks ++ names_under left) keys ∙
          name_added l.keys.items c.in-Some.key.now c.in_ok-clone-in-Some-evaluate.field-0 (names_under left)
          (names_under l.key-iterator)
          (names_under all) l.invariant.names (ap names_under steps) c.in_ok-clone-in-Some-evaluate.ensures.cases;
      lengths = ap length keys ∙ length_push l.keys.items _ ∙ ap (λ n. n + 1) l.invariant.lengths ∙
          sym (length_push l.values.items _) ∙ sym (ap length values);
      many =
          let pushed = ap length values ∙ length_push l.values.items _ in
          let before = ap (λ es. length (parts_under es)) steps in
          let was = l.invariant.many in omega (arith, pushed, before, was);
      direct = more_so_far c.args.within.now g.T.DirectEvaluator.height (terms_view (parts_under all)) (terms_view (parts_under l.key-iterator)) (terms_view (parts_under left)) (view part) l.values.items v _ l.invariant.direct
          (ap (λ es. terms_view (parts_under es)) steps)
          (λ r k speaks low. subst (λ w. Runs (evaluation_setting r c.args.within.now) (calls_in c.args.within.now) k (view part) (answers_value w)) (sym c.standing_at.ensures.what) (c.in-Some-evaluate.ensures r k speaks low))
          values;
    }

pub returns : goal.returns
returns g c =
    let all = c.args.pairs.now.entries in
    let l = c.pairs in
    let none = c.in-None.ensures.steps.0 in
    let names = sym (append-nil (texts_of l.keys.items)) ∙ ap (λ es. texts_of l.keys.items ++ names_under es) (sym none) ∙ l.invariant.names in
    let ended = ap (λ es. length (parts_under es)) none in
    let was = l.invariant.many in (
      names,
      l.invariant.lengths,
      omega (arith, ended, was),
      keys_in_order l.keys.items all names c.iter-key-items.ensures.ordered,
      all_so_far c.args.within.now g.T.DirectEvaluator.height (terms_view (parts_under all)) (terms_view (parts_under l.key-iterator)) l.values.items l.invariant.direct (ap (λ es. terms_view (parts_under es)) none),
    )
