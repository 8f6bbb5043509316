use Rattle.std.proofs.Common.{◌≡◌, List, [], ◌∷◌, ◌++◌, ◌+◌, IfOk, OnOk, length, map, take, ap, sym, subst, ◌∙◌, append_assoc, arith}
use Rattle.std.specs.Prelude.{codes}
use Rattle.std.specs.Rc.{rc_str_bytes}
use Rattle.std.proofs.lemmas.List.{append-nil, map-append, take_all, take_more}
use Rattle.json.specs.Json.{Json, array, object}
use Rattle.json.specs.Value.{items_of}
use Rattle.cedar_model.specs.Terms.{Text, Term, record_of}
use Rattle.cedar_expressions.specs.declared.expr.Expr.{Expr}
use Rattle.cedar_expressions.specs.View.{view, kind_view, terms_view, fields_view}
use Rattle.cedar_expressions.proofs.Levels.{kind_view-Record}
use Rattle.cedar_json_writer.specs.Trees.{json_view, members_of}
use Rattle.cedar_json_writer.specs.Written as writes
use Rattle.cedar_json_writer.specs.ReadBack.{IsKept, AreKept, FieldsAreKept}
use Rattle.cedar_json_writer.proofs.Ordered.{in_order}
use Rattle.cedar_json_writer.proofs.ReadBack.{one_more_field, one_more_kept}
use Rattle.cedar_json_writer.proofs.Trees.{view_array, view_object, held}
use Rattle.cedar_json_writer.proofs.Written.{Entry, written_expr, written_pair, items_written, members_written, call_many}
use Rattle.cedar_json_writer.proofs.expressions.+written.Goals as goal

pub call_to_json-returns-in_ok-arguments : goal.call_to_json-returns-in_ok-arguments
call_to_json-returns-in_ok-arguments t c =
    let es = c.args.args.now in
    let n = rc_str_bytes c.args.name.now in
    let other : length es ≡ 1 → ⊥ = λ h. absurd (omega (arith, h)) in
    let made = json_view c.in_ok-arguments.arguments in
    let same : writes.written_call_of (json_view c.in_ok-function.function) (codes "args") made ≡ writes.written_call n (writes.written_items (terms_view es)) =
    ap (λ (f : Json). writes.written_call_of f (codes "args") made) c.in_ok-function.ensures
    ∙ ap (λ (j : Json). writes.written_call_of (writes.written_text n) (codes "args") j) c.in_ok-arguments.ensures.written ∙ call_many n es other in
    record {
      kept = held (AreKept (terms_view es)) c.call_object-else-args-eq1.result c.in_ok-arguments.ensures.kept;
      written = subst (λ (k : Json). IfOk c.call_object-else-args-eq1.result (λ j. json_view j ≡ k)) same c.call_object-else-args-eq1.ensures;
    }

pub pairs_to_json-pairs-preserved : goal.pairs_to_json-pairs-preserved
pairs_to_json-pairs-preserved t c =
    let l = c.pairs in
    let done = l.invariant.0 in
    let key = c.in-Some.key.now in
    let e : Entry = (key, c.in-Some.part.now) in
    let left = c.next.new.self in
    let made = json_view c.in_ok-member.member in (
      done ++ e ∷ [],
      l.invariant.1 ∙ ap (λ (es : List Entry). done ++ es) c.in-Some.ensures.steps ∙ sym (append_assoc done (e ∷ []) left),
      c.in_ok-put_member.ensures ∙ ap (λ (ms : List (Text × Json)). ms ++ (c.as_str.result.now, made) ∷ []) l.invariant.2
          ∙ ap (λ (k : Text). map written_pair done ++ (k, made) ∷ []) c.as_str.ensures.value
          ∙ ap (λ (j : Json). map written_pair done ++ (rc_str_bytes key, j) ∷ []) c.in_ok-member.ensures.written ∙ sym (map-append written_pair done (e ∷ [])),
      one_more_field done e l.invariant.3 c.in_ok-member.ensures.kept,
    )

pub pairs_to_json-returns : goal.pairs_to_json-returns
pairs_to_json-returns t c =
    let done = c.pairs.invariant.0 in
    let es = c.args.pairs.now.entries in
    let all : es ≡ done = c.pairs.invariant.1 ∙ ap (λ (left : List Entry). done ++ left) c.in-None.ensures.steps.0 ∙ append-nil done in
    record {
      kept = (in_order es c.iter-key-items.ensures.ordered, subst (λ (fs : List Entry). FieldsAreKept (fields_view fs)) (sym all) c.pairs.invariant.3);
      written = view_object c.pairs.members ∙ ap object (ap members_of c.pairs.invariant.2 ∙ ap (λ (fs : List Entry). members_of (map written_pair fs)) (sym all)
          ∙ members_written es);
    }

pub set_to_json-parts-preserved : goal.set_to_json-parts-preserved
set_to_json-parts-preserved t c =
    let es = c.args.parts.now in
    let i = c.parts.part-index in
    let e : Expr = c.part-item.result in
    let more : take (i + 1) es ≡ take i es ++ e ∷ [] = take_more es i e c.parts-test.true ∙ ap (λ (d : Expr). take i es ++ d ∷ []) (sym c.part-item.is) in (
      c.in_ok-put_item.ensures ∙ (λ k. c.parts.invariant.0 k ++ c.in_ok-item.ensures.written k ∷ []) ∙ sym (map-append written_expr (take i es) (e ∷ []))
          ∙ ap (map written_expr) (sym more),
      subst (λ (ds : List Expr). AreKept (terms_view ds)) (sym more) (one_more_kept (take i es) e c.parts.invariant.1 c.in_ok-item.ensures.kept),
    )

pub set_to_json-returns : goal.set_to_json-returns
set_to_json-returns t c =
    let es = c.args.parts.now in
    let all = take_all c.parts.part-index es c.parts-test.false in
    record {
      kept = subst (λ s. AreKept (terms_view s)) all c.parts.invariant.1;
      written = view_array c.parts.items ∙ ap array (ap items_of (c.parts.invariant.0 ∙ ap (map written_expr) all) ∙ items_written es);
    }

pub restricted_to_json-returns-in-Record-clause-kept : goal.restricted_to_json-returns-in-Record-clause-kept
restricted_to_json-returns-in-Record-clause-kept t c =
    let is : record_of (fields_view c.deref-in-Record.result.now.entries) ≡ view c.args.expr.now =
    ap (λ m. record_of (fields_view m.entries)) c.deref-in-Record.ensures ∙ sym (kind_view-Record c.in-Record.pairs)
    ∙ ap kind_view (sym c.in-Record.is) ∙ c.expr_kind.ensures.view in
    subst (λ (u : Term). OnOk c.pairs_to_json.result (IsKept u)) is c.pairs_to_json.ensures.kept
