use Rattle.std.proofs.Common.{◌∙◌, ap, sym, map, length, subst, btree_map_len}
use Rattle.std.specs.Cmp.Lexicographic.{slice_cmp}
use Rattle.std.specs.List.Sorted.{IsStrictlySortedBy}
use Rattle.std.specs.Ordering.{nat_cmp}
use Rattle.cedar_model.specs.Values.{expression_of}
use Rattle.cedar_requests.specs.ContextValues.{ValueMap}
use Rattle.cedar_requests.specs.Walks.{attribute_names, value_attribute}
use Rattle.cedar_requests.proofs.Copies.{ValuePair}
use Rattle.cedar_requests.proofs.Walks.{in_order, all_left}
use Rattle.cedar_requests.proofs.context.walk.LackingIter.new.Goals as goal

pub returns-clause-attributes : goal.returns-clause-attributes
returns-clause-attributes c =
    let es = c.args.values.value.entries in
    all_left (map value_attribute es) (length es) c.len-left.result
    (c.len-left.ensures.len ∙ ap (λ (m : ValueMap). btree_map_len m) c.as_ref.ensures)

pub returns-clause-in_order : goal.returns-clause-in_order
returns-clause-in_order c =
    let es = c.args.values.value.entries in
    let all = all_left (map value_attribute es) (length es) c.len-left.result
    (c.len-left.ensures.len ∙ ap (λ (m : ValueMap). btree_map_len m) c.as_ref.ensures) in
    let sorted = in_order (λ (p : ValuePair). (expression_of p.1.what, p.1.loc)) c.as_ref.result.now.entries
    c.len-left.ensures.ordered in
    subst (λ left. IsStrictlySortedBy (slice_cmp nat_cmp) (attribute_names left))
    (ap (λ (m : ValueMap). map value_attribute m.entries) c.as_ref.ensures ∙ sym all) sorted
