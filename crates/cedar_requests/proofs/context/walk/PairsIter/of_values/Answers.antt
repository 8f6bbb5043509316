use Rattle.std.proofs.Common.{◌∙◌, ap, sym, map, subst}
use Rattle.std.specs.Cmp.Lexicographic.{slice_cmp}
use Rattle.std.specs.List.Sorted.{IsStrictlySortedBy}
use Rattle.std.specs.Ordering.{nat_cmp}
use Rattle.cedar_model.specs.Values.{expression_of}
use Rattle.cedar_requests.specs.Walks.{attribute_names, value_attribute}
use Rattle.cedar_requests.proofs.Copies.{ValuePair}
use Rattle.cedar_requests.proofs.Walks.{in_order}
use Rattle.cedar_requests.proofs.context.walk.PairsIter.of_values.Goals as goal

pub returns-in-Ok : goal.returns-in-Ok
returns-in-Ok c =
    let given = c.into_iter.ensures.into_iter_gives in
    record {
      attributes = ap (map value_attribute) given.0 ∙ c.in-Ok.ensures.values;
      in_order = subst (λ es. IsStrictlySortedBy (slice_cmp nat_cmp) (attribute_names (map value_attribute es)))
          (sym given.0) (in_order (λ (p : ValuePair). (expression_of p.1.what, p.1.loc)) c.in-Ok.values.entries given.5);
    }
