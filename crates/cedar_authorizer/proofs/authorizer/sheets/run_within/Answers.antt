use Rattle.std.proofs.Common.{sym, ap, ◌∙◌, map}
use Rattle.cedar_layers.specs.Policies.{policy_view, decides_as}
use Rattle.cedar_layers.specs.PolicySets.{policies_left}
use Rattle.cedar_authorizer.proofs.Noting.{noted_all}
use Rattle.cedar_authorizer.proofs.Within.{run_none, run_looked, run_past}
use Rattle.cedar_authorizer.proofs.authorizer.sheets.run_within.Goals as goal

pub policies-init : goal.policies-init
policies-init g c =
    run_none _ _ _ _ c.args.policies.now c.new-sheet.result _ _ c.new-sheet.ensures
    (sym (ap policies_left c.into_iter-policy-iterator.ensures.into_iter_gives ∙ c.policies-policy-items.ensures.whole)) c.requires

pub policies-preserved-then-is_at : goal.policies-preserved-then-is_at
policies-preserved-then-is_at g c =
    let z = c.in_ok-outcome.ensures.outcome in
    run_looked _ _ _ _ _ _ _ (map (λ p. p.now) c.args.within.now) c.policies.next c.in-Some.policy.now c.in-Some.ensures.steps c.policies.sheet c.place.new.self c.policies.invariant
    c.in_ok-outcome.outcome (sym c.is_at.ensures ∙ c.if-is_at.true) (z.0, z.1.runs, z.2, z.3) c.in_ok-outcome.ensures.place c.in_ok-place.ensures

pub policies-preserved : goal.policies-preserved
policies-preserved g c =
    run_past _ _ _ _ _ _ _ (map (λ p. p.now) c.args.within.now) c.policies.next c.in-Some.policy.now c.in-Some.ensures.steps c.policies.sheet c.place-else-is_at.new.self c.policies.invariant
    (sym c.is_at.ensures ∙ c.if-is_at.false) c.in_ok-place-2.ensures

pub returns-clause-run : goal.returns-clause-run
returns-clause-run g c =
    noted_all _ _ _ _ _ c.policies.sheet _ (ap (λ ps. map decides_as (map policy_view ps)) c.in-None.ensures.steps.0) c.policies.invariant.noted

pub returns-clause-places : goal.returns-clause-places
returns-clause-places g c = c.policies.invariant.placed.placed
