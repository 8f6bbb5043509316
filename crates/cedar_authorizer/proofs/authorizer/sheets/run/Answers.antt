use Rattle.std.proofs.Common.{sym, subst, map}
use Rattle.std.specs.Option.{IfSome}
use Rattle.cedar_model.specs.Agreement.{no_slots}
use Rattle.cedar_layers.specs.PolicySets.{stored_policies}
use Rattle.cedar_evaluator.specs.Evaluations.{setting_of, calls_in, limit_of}
use Rattle.cedar_authorizer.specs.Reaching.{AreFalseBut}
use Rattle.cedar_authorizer.proofs.authorizer.sheets.run.Goals as goal

pub run_within-requires : goal.run_within-requires
run_within-requires g c =
    let e = c.args.evaluator.now in
    let all = stored_policies c.args.policies.now in
    let here : AreFalseBut (setting_of e no_slots) (calls_in e) (limit_of e) all (map (λ p. p.now) c.in-Some.within.items) = subst (λ o. IfSome o (λ v. AreFalseBut (setting_of e no_slots) (calls_in e) (limit_of e) all (map (λ p. p.now) v.items))) c.in-Some.is c.requires in
    subst (λ ps. AreFalseBut (setting_of e no_slots) (calls_in e) (limit_of e) all (map (λ p. p.now) ps)) (sym c.deref.ensures.value) here
