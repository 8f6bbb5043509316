use Rattle.std.proofs.Common.{◌≡◌, Ok, Some, subst}
use Rattle.cedar_model.specs.Values.{set_represented}
use Rattle.cedar_model.specs.Sets.{canonical_set}
use Rattle.cedar_values.specs.Sound.{whats}
use Rattle.cedar_interpreter.specs.Settings.{evaluation_setting, calls_in}
use Rattle.cedar_interpreter.specs.DirectEvaluators.{HasDirectParts}
use Rattle.cedar_interpreter.proofs.DirectEvaluatorLaws.{made_of, set_direct}
use Rattle.cedar_interpreter.proofs.direct_evaluators.EvaluatorAbove.evaluate_set.Goals as goal

pub returns-in-Ok-Some : goal.returns-in-Ok-Some
returns-in-Ok-Some g c r k speaks low =
    let direct : HasDirectParts c.args.within.now g.T.DirectEvaluator.height c.args.parts.now (Ok (Some c.in-Ok-Some.values)) = subst (λ o. HasDirectParts c.args.within.now g.T.DirectEvaluator.height c.args.parts.now (Ok o)) c.in-Ok-Some.field-0-is c.in-Ok-Some.ensures in
    set_direct (evaluation_setting r c.args.within.now) (calls_in c.args.within.now) k c.args.parts.now c.in-Ok-Some.values c.value_or_none.result direct.0 (direct.1 r k speaks low)
    (made_of c.set.result c.value_or_none.result (λ v. v.what ≡ set_represented (canonical_set (whats c.in-Ok-Some.values.items))) c.set.ensures.what c.value_or_none.ensures)
