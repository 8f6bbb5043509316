use Rattle.std.proofs.Common.{sym, ap, ◌∙◌, map}
use Rattle.cedar_layers.specs.Policies.{policy_view, decides_as}
use Rattle.cedar_layers.specs.PolicySets.{policies_left}
use Rattle.cedar_authorizer.proofs.Telling.{told_none, told_more, told_all}
use Rattle.cedar_authorizer.proofs.authorizer.telling.tell_all.Goals as goal

pub policies-init : goal.policies-init
policies-init g c =
    told_none _ _ _ _ _ c.new-sheet.result _ c.new-sheet.ensures (sym (ap (λ it. map decides_as (map policy_view (policies_left it))) c.into_iter-policy-iterator.ensures.into_iter_gives ∙ ap (map decides_as) c.policies-policy-items.ensures.view))

pub policies-preserved : goal.policies-preserved
policies-preserved g c =
    let z = c.in_ok-outcome.ensures.outcome in
    told_more _ _ _ _ _ c.policies.sheet c.place_what_tells.new.sheet (policy_view c.in-Some.policy.now) c.in_ok-outcome.outcome _ _ (ap (λ ps. map decides_as (map policy_view ps)) c.in-Some.ensures.steps) c.policies.invariant (z.0, z.1.runs, z.2, z.3) c.in_ok-place_what_tells.ensures

pub returns : goal.returns
returns g c =
    told_all _ _ _ _ _ c.policies.sheet _ (ap (λ ps. map decides_as (map policy_view ps)) c.in-None.ensures.steps.0) c.policies.invariant
