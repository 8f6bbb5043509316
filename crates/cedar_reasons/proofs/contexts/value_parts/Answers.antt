use Rattle.std.proofs.Common.{◌++◌, ◌+◌, ap, sym, ◌∙◌, length, map}
use Rattle.std.proofs.lemmas.List.{append-nil, length_push}
use Rattle.cedar_expressions.specs.View.{view}
use Rattle.cedar_restricted.specs.Keys.{texts_of}
use Rattle.cedar_restricted.proofs.Collected.{names_under, name_added, keys_in_order}
use Rattle.cedar_requests.proofs.ByParts.{one_more}
use Rattle.cedar_reasons.specs.Facts.{facts_view}
use Rattle.cedar_reasons.proofs.KeptNames.{value_terms, fields_of_values}
use Rattle.cedar_reasons.proofs.contexts.value_parts.Goals as goal

pub values-preserved : goal.values-preserved
values-preserved c =
    let fs = facts_view c.args.facts.now in
    let all = c.args.values.now.entries in
    let left = c.next.new.self in
    let l = c.values in
    let part = c.in_ok-reduced_value.field-0 in
    let keys = c.in_ok-push.ensures.items in
    let parts = c.in_ok-push-2.ensures.items in
    record {
      names = ap (λ ks. texts_of ks ++ names_under left) keys ∙
          name_added l.keys.items c.in-Some.key.now c.in_ok-clone.field-0 (names_under left)
          (names_under l.key-iterator)
          (names_under all) l.invariant.names (ap names_under c.in-Some.ensures.steps) c.in_ok-clone.ensures.cases;
      views = ap (λ es. map view es ++ value_terms fs left) parts ∙
          one_more view l.parts.items part _ (value_terms fs left)
          (value_terms fs l.key-iterator)
          (value_terms fs all) l.invariant.views (ap (value_terms fs) c.in-Some.ensures.steps)
          c.in_ok-reduced_value.ensures;
      lengths = ap length keys ∙ length_push l.keys.items _ ∙ ap (λ n. n + 1) l.invariant.lengths ∙
          sym (length_push l.parts.items _) ∙ sym (ap length parts);
    }

pub returns-clause-fields : goal.returns-clause-fields
returns-clause-fields c =
    let fs = facts_view c.args.facts.now in
    let l = c.values in
    let none = c.in-None.ensures.steps.0 in
    let names = sym (append-nil (texts_of l.keys.items)) ∙
    ap (λ es. texts_of l.keys.items ++ names_under es) (sym none) ∙ l.invariant.names in
    let views = sym (append-nil (map view l.parts.items)) ∙
    ap (λ es. map view l.parts.items ++ value_terms fs es) (sym none) ∙ l.invariant.views in
    fields_of_values fs l.keys.items l.parts.items c.args.values.now.entries names views

pub returns-clause-keys : goal.returns-clause-keys
returns-clause-keys c =
    let l = c.values in
    let none = c.in-None.ensures.steps.0 in
    let names = sym (append-nil (texts_of l.keys.items)) ∙
    ap (λ es. texts_of l.keys.items ++ names_under es) (sym none) ∙ l.invariant.names in (
      l.invariant.lengths,
      keys_in_order l.keys.items c.args.values.now.entries names c.iter-key-items.ensures.ordered,
    )
