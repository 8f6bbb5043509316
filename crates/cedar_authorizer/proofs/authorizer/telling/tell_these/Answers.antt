use Rattle.std.proofs.Common.{◌≡◌, suc, ◌+◌, ◌∷◌, refl, sym, ap, ◌∙◌, arith, map, drop}
use Rattle.std.proofs.Math.Seq.{drop-cons}
use Rattle.std.proofs.lemmas.List.{drop_all}
use Rattle.cedar_layers.specs.Policies.{policy_view}
use Rattle.cedar_authorizer.specs.Telling.{deciding_these}
use Rattle.cedar_authorizer.proofs.Telling.{told_none, told_more, told_all}
use Rattle.cedar_authorizer.proofs.authorizer.telling.tell_these.Goals as goal

pub policies-init : goal.policies-init
policies-init g c = told_none _ _ _ _ _ c.new-sheet.result _ c.new-sheet.ensures refl

pub policies-preserved : goal.policies-preserved
policies-preserved g c =
    let policies = c.args.policies.now in
    let i = c.policies.policy-index in
    let item = c.policy-item.result in
    let more : suc i ≡ i + 1 = omega arith in
    let next : drop i policies ≡ item ∷ drop (i + 1) policies = drop-cons policies i item c.policies-test.true ∙ ap (λ p. p ∷ drop (suc i) policies) (sym c.policy-item.is) ∙ ap (λ j. item ∷ drop j policies) more in
    let z = c.in_ok-outcome.ensures.outcome in
    told_more _ _ _ _ _ c.policies.sheet c.place_what_tells.new.sheet (policy_view item.now) c.in_ok-outcome.outcome _ _ (ap (λ ps. deciding_these (map (λ p. p.now) ps)) next) c.policies.invariant (z.0, z.1.runs, z.2, z.3) c.in_ok-place_what_tells.ensures

pub returns : goal.returns
returns g c =
    told_all _ _ _ _ _ c.policies.sheet _ (ap (λ ps. deciding_these (map (λ p. p.now) ps)) (drop_all c.policies.policy-index c.args.policies.now c.policies-test.false)) c.policies.invariant
