use Rattle.std.proofs.Common.{ap}
use Rattle.std.specs.Map.{values_of}
use Rattle.cedar_layers.proofs.Filing.{nothing_filed, filed_more}
use Rattle.cedar_layers.proofs.Placing.{placed_none, placed_more, length_values}
use Rattle.cedar_layers.proofs.Repeats.{fills-first, fills-more}
use Rattle.cedar_layers.proofs.policies.policy_set.PolicySet.try_from_iter.Goals as goal

pub insert-init : goal.insert-init
insert-init c = (
  fills-first _ _ _ c.new-set.ensures.empty c.into_iter-policy-iterator.ensures.into_iter_gives.0,
  placed_none c.new-index.result _ (ap values_of c.new-set.ensures.empty),
  nothing_filed c.new-index.result _ c.new-index.ensures.rest c.new-index.ensures.groups c.new-index.ensures.types,
)

pub insert-preserved : goal.insert-preserved
insert-preserved c = (
  fills-more _ _ _ c.in-Some.policy _ _ c.in-Some.ensures.steps.0 c.insert.invariant.0 c.in_ok-place.ensures.ok,
  placed_more _ _ _ _ c.in-Some.policy _ c.in_ok-place.ensures.ok.values (length_values _) c.insert.invariant.1 c.in_ok-place.ensures.placed,
  filed_more _ _ _ _ c.in-Some.policy _ c.in_ok-place.ensures.ok.values (length_values _) c.insert.invariant.2 c.in_ok-place.ensures.placed,
)
