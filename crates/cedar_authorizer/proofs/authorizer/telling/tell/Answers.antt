use Rattle.std.proofs.Common.{sym, subst, map}
use Rattle.std.specs.Option.{IfSome}
use Rattle.std.proofs.lemmas.Result.{IfOk-weaker}
use Rattle.cedar_model.specs.Agreement.{no_slots}
use Rattle.cedar_layers.specs.PolicySets.{stored_policies}
use Rattle.cedar_evaluator.specs.Evaluations.{setting_of, calls_in, limit_of}
use Rattle.cedar_authorizer.specs.Reaching.{AreFalseBut}
use Rattle.cedar_authorizer.specs.Responding.{considered}
use Rattle.cedar_authorizer.proofs.Telling.{told_of_all}
use Rattle.cedar_authorizer.proofs.authorizer.telling.tell.Goals as goal

pub returns-in-Some : goal.returns-in-Some
returns-in-Some g c =
    let e = c.args.evaluator.now in
    let all = stored_policies c.args.policies.now in
    let here : AreFalseBut (setting_of e no_slots) (calls_in e) (limit_of e) all (map (λ p. p.now) c.in-Some.within.items) = subst (λ o. IfSome o (λ v. AreFalseBut (setting_of e no_slots) (calls_in e) (limit_of e) all (map (λ p. p.now) v.items))) c.in-Some.is c.requires in
    let reached : AreFalseBut (setting_of e no_slots) (calls_in e) (limit_of e) all (map (λ p. p.now) c.deref.result.now) = subst (λ ps. AreFalseBut (setting_of e no_slots) (calls_in e) (limit_of e) all (map (λ p. p.now) ps)) (sym c.deref.ensures.value) here in
    IfOk-weaker c.tell_these.result _ _ (λ z h. told_of_all _ (setting_of e no_slots) (calls_in e) (limit_of e) (considered c.args.policies.now) _ z reached h) c.tell_these.ensures
