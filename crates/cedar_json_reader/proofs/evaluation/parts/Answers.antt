use Rattle.std.proofs.Common.{◌≡◌, [], ◌∷◌, ◌++◌, List, sym, ap, ◌∙◌, subst, append_assoc, append-nil, rules, Global}
use Rattle.std.specs.Rc.{rc_str_bytes}
use Rattle.std.specs.Vec.Iter.{into_iter_items}
use Rattle.std.specs.declared.rc.RcStr.{RcStr}
use Rattle.std.proofs.lemmas.List.{nil_from_length}
use Rattle.std.proofs.lemmas.List.Elements.{All-nil}
use Rattle.cedar_model.specs.Terms.{Text, Term, Fields, no_fields}
use Rattle.cedar_expressions.specs.Records.{put_field, put_fields}
use Rattle.cedar_values.specs.declared.partial_value.PartialValue.{PartialValue}
use Rattle.cedar_layers.specs.Parts.{parts_view}
use Rattle.cedar_restricted.specs.Evaluators.{extensions_read, calls_in, limit_of}
use Rattle.cedar_restricted.specs.declared.restricted_expr.RestrictedExpr.{RestrictedExpr}
use Rattle.cedar_restricted.specs.Views.{restricted_term}
use Rattle.cedar_json_reader.specs.Lists.{pairs_said}
use Rattle.cedar_json_reader.specs.Evaluated.{AreAnswered}
use Rattle.cedar_json_reader.specs.FailedEntities.{IsAnswered, AreAllAnswered, AreFailedParts}
use Rattle.cedar_json_reader.proofs.Failed.{one_more_answered, parts_failed, failed_up}
use Rattle.cedar_json_reader.proofs.evaluation.parts.Goals as goal

pub pairs-init : goal.pairs-init
pairs-init g c =
    let x = extensions_read c.args.evaluator.now in
    let calls = calls_in c.args.evaluator.now in
    let n = limit_of c.args.evaluator.now in
    let all : into_iter_items c.into_iter-key-iterator.result ≡ c.args.pairs.items = search rules in (
      no_fields,
      ap (λ (ps : List (RcStr Global × RestrictedExpr)). put_fields no_fields (pairs_said ps)) (sym all),
      subst (λ (es : List (RcStr Global × PartialValue)). AreAnswered x calls n no_fields (parts_view es)) (sym c.new-parts.ensures) tt,
      [],
      ap pairs_said (sym all),
      All-nil (λ (p : Text × Term). IsAnswered x calls n p.1),
    )

pub pairs-preserved : goal.pairs-preserved
pairs-preserved g c =
    let l = c.pairs in
    let fs = l.invariant.0 in
    let done = l.invariant.3 in (
      put_field fs (rc_str_bytes c.in-Some.key) (restricted_term c.in-Some.expr),
      l.invariant.1 ∙ ap (λ (ps : List (RcStr Global × RestrictedExpr)). put_fields fs (pairs_said ps)) c.in-Some.ensures.steps.0,
      c.in_ok-parts.ensures.adds fs l.invariant.2,
      done ++ (rc_str_bytes c.in-Some.key, restricted_term c.in-Some.expr) ∷ [],
      l.invariant.4 ∙ ap (λ (ps : List (RcStr Global × RestrictedExpr)). done ++ pairs_said ps) c.in-Some.ensures.steps.0
          ∙ sym (append_assoc done ((rc_str_bytes c.in-Some.key, restricted_term c.in-Some.expr) ∷ []) (pairs_said (into_iter_items c.next.new.self))),
      one_more_answered (extensions_read c.args.evaluator.now) (calls_in c.args.evaluator.now) (limit_of c.args.evaluator.now) done (rc_str_bytes c.in-Some.key) (restricted_term c.in-Some.expr) l.invariant.5 c.in_ok-parts.ensures.answered,
    )

pub returns-clause-answered : goal.returns-clause-answered
returns-clause-answered g c =
    let l = c.pairs in
    let x = extensions_read c.args.evaluator.now in
    let calls = calls_in c.args.evaluator.now in
    let n = limit_of c.args.evaluator.now in
    let none : into_iter_items l.key-iterator ≡ [] = nil_from_length (into_iter_items l.key-iterator) (sym l.key-iterator.rest.ok.0 ∙ c.in-None.ensures.steps.0) in
    subst (λ (gs : Fields). AreAnswered x calls n gs (parts_view l.parts.map.entries)) (sym (l.invariant.1 ∙ ap (λ (ps : List (RcStr Global × RestrictedExpr)). put_fields l.invariant.0 (pairs_said ps)) none)) l.invariant.2

pub returns-clause-all : goal.returns-clause-all
returns-clause-all g c =
    let l = c.pairs in
    let none : into_iter_items l.key-iterator ≡ [] = nil_from_length (into_iter_items l.key-iterator) (sym l.key-iterator.rest.ok.0 ∙ c.in-None.ensures.steps.0) in
    let whole = l.invariant.4 ∙ ap (λ (ps : List (RcStr Global × RestrictedExpr)). l.invariant.3 ++ pairs_said ps) none ∙ append-nil l.invariant.3 in
    subst (λ (ps : List (Text × Term)). AreAllAnswered (extensions_read c.args.evaluator.now) (calls_in c.args.evaluator.now) (limit_of c.args.evaluator.now) ps) (sym whole) l.invariant.5

pub returns-in_err-parts-clause-failed : goal.returns-in_err-parts-clause-failed
returns-in_err-parts-clause-failed g c =
    let l = c.pairs in
    let x = extensions_read c.args.evaluator.now in
    let calls = calls_in c.args.evaluator.now in
    let n = limit_of c.args.evaluator.now in
    let done = l.invariant.3 in
    let all = pairs_said c.args.pairs.items in
    failed_up c.from_residual.result _ (AreFailedParts x calls n all) c.from_residual.ensures.1
    (parts_failed x calls n all done (rc_str_bytes c.in-Some.key) (restricted_term c.in-Some.expr) (pairs_said (into_iter_items c.next.new.self)) _
    (l.invariant.4 ∙ ap (λ (ps : List (RcStr Global × RestrictedExpr)). done ++ pairs_said ps) c.in-Some.ensures.steps.0) l.invariant.5 c.in_err-parts.ensures.failed)
