use Rattle.std.proofs.Common.{◌++◌, ◌+◌, ap, sym, ◌∙◌, length, map}
use Rattle.std.proofs.lemmas.List.{append-nil, length_push}
use Rattle.cedar_model.specs.Chains.{substituted}
use Rattle.cedar_expressions.specs.View.{view, expr_loc}
use Rattle.cedar_restricted.specs.Keys.{texts_of}
use Rattle.cedar_restricted.proofs.Collected.{names_under, name_added, keys_in_order}
use Rattle.cedar_requests.specs.Contexts.{expr_locs, entry_locs}
use Rattle.cedar_requests.specs.Substitutions.{values_for}
use Rattle.cedar_requests.proofs.ByParts.{one_more, views_with, fields_of_all_with}
use Rattle.cedar_requests.proofs.context.substitution.parts_with.Goals as goal

pub fields-preserved : goal.fields-preserved
fields-preserved c =
    let m = values_for c.args.map.now.entries in
    let all = c.args.pairs.now.entries in
    let left = c.next.new.self in
    let l = c.fields in
    let was = c.in-Some.part.now in
    let part = c.in_ok-substitute.field-0 in
    let keys = c.in_ok-push.ensures.items in
    let parts = c.in_ok-push-2.ensures.items in
    record {
      names = ap (λ ks. texts_of ks ++ names_under left) keys ∙
          name_added l.keys.items c.in-Some.key.now c.in_ok-clone.field-0 (names_under left)
          (names_under l.key-iterator)
          (names_under all) l.invariant.names (ap names_under c.in-Some.ensures.steps) c.in_ok-clone.ensures.cases;
      views = ap (λ es. map view es ++ views_with m left) parts ∙
          one_more view l.parts.items part (substituted m (view was)) (views_with m left)
          (views_with m l.key-iterator)
          (views_with m all) l.invariant.views (ap (views_with m) c.in-Some.ensures.steps)
          c.in_ok-substitute.ensures.view;
      places = ap (λ es. expr_locs es ++ entry_locs left) parts ∙
          one_more expr_loc l.parts.items part (expr_loc was) (entry_locs left) (entry_locs l.key-iterator)
          (entry_locs all) l.invariant.places (ap entry_locs c.in-Some.ensures.steps) c.in_ok-substitute.ensures.loc;
      lengths = ap length keys ∙ length_push l.keys.items _ ∙ ap (λ n. n + 1) l.invariant.lengths ∙
          sym (length_push l.parts.items _) ∙ sym (ap length parts);
    }

pub returns-clause-fields : goal.returns-clause-fields
returns-clause-fields c =
    let m = values_for c.args.map.now.entries in
    let l = c.fields in
    let none = c.in-None.ensures.steps.0 in
    let names = sym (append-nil (texts_of l.keys.items)) ∙
    ap (λ es. texts_of l.keys.items ++ names_under es) (sym none) ∙ l.invariant.names in
    let views = sym (append-nil (map view l.parts.items)) ∙
    ap (λ es. map view l.parts.items ++ views_with m es) (sym none) ∙ l.invariant.views in
    fields_of_all_with m l.keys.items l.parts.items c.args.pairs.now.entries names views

pub returns-clause-keys : goal.returns-clause-keys
returns-clause-keys c =
    let l = c.fields in
    let none = c.in-None.ensures.steps.0 in
    let names = sym (append-nil (texts_of l.keys.items)) ∙
    ap (λ es. texts_of l.keys.items ++ names_under es) (sym none) ∙ l.invariant.names in (
      l.invariant.lengths,
      keys_in_order l.keys.items c.args.pairs.now.entries names c.iter-key-items.ensures.ordered,
    )

pub returns-clause-places : goal.returns-clause-places
returns-clause-places c =
    let l = c.fields in
    let none = c.in-None.ensures.steps.0 in
    sym (append-nil (expr_locs l.parts.items)) ∙ ap (λ es. expr_locs l.parts.items ++ entry_locs es) (sym none) ∙
    l.invariant.places
