use Rattle.std.proofs.Common.{◌++◌, ◌+◌, ap, sym, ◌∙◌, length, map}
use Rattle.std.proofs.lemmas.List.{append-nil, length_push}
use Rattle.cedar_expressions.specs.View.{view, terms_view}
use Rattle.cedar_restricted.specs.Keys.{texts_of, fields_named}
use Rattle.cedar_restricted.proofs.Collected.{names_under, views_under, name_added, view_added, fields_of_all}
use Rattle.cedar_restricted.proofs.Collected.{keys_in_order}
use Rattle.cedar_restricted.proofs.parts.keys_and_parts.Goals as goal

pub fields-preserved : goal.fields-preserved
fields-preserved c =
    let all = c.args.pairs.now.entries in
    let left = c.next.new.self in
    let l = c.fields in
    let keys = c.in_ok-push.ensures.items in
    let parts = c.in_ok-push-2.ensures.items in
    record {
      names = ap (λ ks. texts_of ks ++ names_under left) keys ∙
          name_added l.keys.items c.in-Some.key.now c.in_ok-clone.field-0 (names_under left)
          (names_under l.key-iterator)
          (names_under all) l.invariant.names (ap names_under c.in-Some.ensures.steps) c.in_ok-clone.ensures.cases;
      views = ap (λ es. map view es ++ views_under left) parts ∙
          view_added l.parts.items c.in-Some.part.now c.in_ok-clone-2.field-0 (views_under left)
          (views_under l.key-iterator)
          (views_under all) l.invariant.views (ap views_under c.in-Some.ensures.steps) c.in_ok-clone-2.ensures.cases.0;
      lengths = ap length keys ∙ length_push l.keys.items _ ∙ ap (λ n. n + 1) l.invariant.lengths ∙
          sym (length_push l.parts.items _) ∙ sym (ap length parts);
    }

pub returns-clause-fields : goal.returns-clause-fields
returns-clause-fields c =
    let l = c.fields in
    let none = c.in-None.ensures.steps.0 in
    let names = sym (append-nil (texts_of l.keys.items)) ∙
    ap (λ es. texts_of l.keys.items ++ names_under es) (sym none) ∙ l.invariant.names in
    let views = sym (append-nil (map view l.parts.items)) ∙
    ap (λ es. map view l.parts.items ++ views_under es) (sym none) ∙ l.invariant.views in
    ap (λ v. fields_named (texts_of l.keys.items) (terms_view v.items)) c.in_ok-new.ensures.ok ∙
    fields_of_all l.keys.items l.parts.items c.args.pairs.now.entries names views

pub returns-clause-keys : goal.returns-clause-keys
returns-clause-keys c =
    let l = c.fields in
    let none = c.in-None.ensures.steps.0 in
    let names = sym (append-nil (texts_of l.keys.items)) ∙
    ap (λ es. texts_of l.keys.items ++ names_under es) (sym none) ∙ l.invariant.names in (
      l.invariant.lengths ∙ sym (ap (λ v. length v.items) c.in_ok-new.ensures.ok),
      keys_in_order l.keys.items c.args.pairs.now.entries names c.iter-key-items.ensures.ordered,
    )
