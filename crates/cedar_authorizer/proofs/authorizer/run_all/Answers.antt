use Rattle.std.proofs.Common.{sym, ap, ◌∙◌, map}
use Rattle.cedar_layers.specs.Policies.{policy_view, decides_as}
use Rattle.cedar_layers.specs.PolicySets.{policies_left}
use Rattle.cedar_authorizer.proofs.Noting.{noted_none, noted_more, noted_all}
use Rattle.cedar_authorizer.proofs.Placed.{none_placed, one_placed}
use Rattle.cedar_authorizer.proofs.authorizer.run_all.Goals as goal

pub policies-init : goal.policies-init
policies-init g c = (
  noted_none _ _ _ _ _ c.new-sheet.result _ c.new-sheet.ensures (sym (ap (λ it. map decides_as (map policy_view (policies_left it))) c.into_iter-policy-iterator.ensures.into_iter_gives ∙ ap (map decides_as) c.policies-policy-items.ensures.view)),
  none_placed _ _ c.new-sheet.result c.new-sheet.ensures (sym (ap policies_left c.into_iter-policy-iterator.ensures.into_iter_gives ∙ c.policies-policy-items.ensures.whole)),
)

pub policies-preserved : goal.policies-preserved
policies-preserved g c =
    let z = c.in_ok-outcome.ensures.outcome in (
      noted_more _ _ _ _ _ c.policies.sheet c.place.new.self (policy_view c.in-Some.policy.now) c.in_ok-outcome.outcome _ _ (ap (λ ps. map decides_as (map policy_view ps)) c.in-Some.ensures.steps) c.policies.invariant.0 (z.0, z.1.runs, z.2, z.3) c.in_ok-place.ensures,
      one_placed _ _ _ _ c.policies.sheet c.place.new.self c.in-Some.policy.now c.in_ok-outcome.outcome c.in-Some.ensures.steps c.policies.invariant.1 c.in_ok-outcome.ensures.place c.in_ok-place.ensures,
    )

pub returns-clause-run : goal.returns-clause-run
returns-clause-run g c =
    noted_all _ _ _ _ _ c.policies.sheet _ (ap (λ ps. map decides_as (map policy_view ps)) c.in-None.ensures.steps.0) c.policies.invariant.0

pub returns-clause-places : goal.returns-clause-places
returns-clause-places g c = c.policies.invariant.1.placed
