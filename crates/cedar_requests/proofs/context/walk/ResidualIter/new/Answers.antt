use Rattle.std.proofs.Common.{sym, map, subst}
use Rattle.std.specs.Cmp.Lexicographic.{slice_cmp}
use Rattle.std.specs.List.Sorted.{IsStrictlySortedBy}
use Rattle.std.specs.Ordering.{nat_cmp}
use Rattle.cedar_expressions.specs.View.{view, expr_loc}
use Rattle.cedar_requests.specs.Walks.{attribute_names, expr_attribute}
use Rattle.cedar_requests.proofs.Copies.{ExprPair}
use Rattle.cedar_requests.proofs.Walks.{in_order}
use Rattle.cedar_requests.proofs.context.walk.ResidualIter.new.Goals as goal

pub returns-clause-in_order : goal.returns-clause-in_order
returns-clause-in_order c =
    let given = c.into_iter.ensures.into_iter_gives in
    subst (λ es. IsStrictlySortedBy (slice_cmp nat_cmp) (attribute_names (map expr_attribute es))) (sym given.0)
    (in_order (λ (p : ExprPair). (view p.1, expr_loc p.1)) c.into_map.result.entries given.5)
