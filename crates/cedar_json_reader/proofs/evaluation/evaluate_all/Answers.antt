use Rattle.std.proofs.Common.{◌≡◌, [], ◌∷◌, ◌++◌, List, sym, ap, ◌∙◌, subst, append_assoc, append-nil, rules}
use Rattle.std.specs.Vec.Iter.{into_iter_items}
use Rattle.std.proofs.lemmas.List.{nil_from_length}
use Rattle.std.proofs.lemmas.List.Elements.{All-nil}
use Rattle.cedar_layers.specs.declared.policies.entities.Entity.{Entity}
use Rattle.cedar_restricted.specs.Evaluators.{extensions_read, calls_in, limit_of}
use Rattle.cedar_json_reader.specs.declared.entities.StatedEntity.{StatedEntity}
use Rattle.cedar_json_reader.specs.SaidEntities.{SaidEntity}
use Rattle.cedar_json_reader.specs.StatedEntities.{stated_view, stated_views}
use Rattle.cedar_json_reader.specs.Evaluated.{AreEvaluated}
use Rattle.cedar_json_reader.specs.FailedEntities.{IsAllAnswered, AreFailedEntities}
use Rattle.cedar_json_reader.proofs.Failed.{one_more_whole, entities_failed, failed_up}
use Rattle.cedar_json_reader.proofs.evaluation.evaluate_all.Goals as goal

pub stated-init : goal.stated-init
stated-init g c =
    let x = extensions_read c.args.evaluator.now in
    let calls = calls_in c.args.evaluator.now in
    let n = limit_of c.args.evaluator.now in
    let all : into_iter_items c.into_iter-entity-iterator.result ≡ c.args.stated.items = search rules in (
      [],
      ap stated_views (sym all),
      subst (λ (ds : List Entity). AreEvaluated x calls n [] ds) (sym c.requires) tt,
      All-nil (IsAllAnswered x calls n),
    )

pub stated-preserved : goal.stated-preserved
stated-preserved g c =
    let l = c.stated in
    let done = l.invariant.0 in
    let e = stated_view c.in-Some.entity in (
      done ++ e ∷ [],
      l.invariant.1 ∙ ap (λ (es : List StatedEntity). done ++ stated_views es) c.in-Some.ensures.steps.0 ∙ sym (append_assoc done (e ∷ []) (stated_views (into_iter_items c.next.new.self))),
      c.in_ok-put_evaluated.ensures.adds done l.invariant.2,
      one_more_whole (extensions_read c.args.evaluator.now) (calls_in c.args.evaluator.now) (limit_of c.args.evaluator.now) done e l.invariant.3 c.in_ok-put_evaluated.ensures.answered,
    )

pub returns-clause-evaluated : goal.returns-clause-evaluated
returns-clause-evaluated g c =
    let l = c.stated in
    let x = extensions_read c.args.evaluator.now in
    let calls = calls_in c.args.evaluator.now in
    let n = limit_of c.args.evaluator.now in
    let none : into_iter_items l.entity-iterator ≡ [] = nil_from_length (into_iter_items l.entity-iterator) (sym l.entity-iterator.rest.ok.0 ∙ c.in-None.ensures.steps.0) in
    let whole = l.invariant.1 ∙ ap (λ (es : List StatedEntity). l.invariant.0 ++ stated_views es) none ∙ append-nil l.invariant.0 in
    subst (λ (es : List SaidEntity). AreEvaluated x calls n es l.entities.items) (sym whole) l.invariant.2

pub returns-in_err-put_evaluated-clause-failed : goal.returns-in_err-put_evaluated-clause-failed
returns-in_err-put_evaluated-clause-failed g c =
    let l = c.stated in
    let x = extensions_read c.args.evaluator.now in
    let calls = calls_in c.args.evaluator.now in
    let n = limit_of c.args.evaluator.now in
    let done = l.invariant.0 in
    let es = stated_views c.args.stated.items in
    failed_up c.from_residual.result _ (AreFailedEntities x calls n es) c.from_residual.ensures.1
    (entities_failed x calls n es done (stated_view c.in-Some.entity) (stated_views (into_iter_items c.next.new.self)) l.entities.items _
    (l.invariant.1 ∙ ap (λ (ds : List StatedEntity). done ++ stated_views ds) c.in-Some.ensures.steps.0) l.invariant.2 l.invariant.3 c.in_err-put_evaluated.ensures.failed)
