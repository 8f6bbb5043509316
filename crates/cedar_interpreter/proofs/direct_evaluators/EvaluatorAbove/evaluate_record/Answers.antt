use Rattle.std.proofs.Common.{◌≡◌, Ok, Some, subst}
use Rattle.cedar_model.specs.Values.{record_represented}
use Rattle.cedar_model.specs.Sets.{represented_fields_of}
use Rattle.cedar_values.specs.Sound.{whats}
use Rattle.cedar_restricted.specs.Keys.{texts_of, each_under}
use Rattle.cedar_interpreter.specs.Settings.{evaluation_setting, calls_in}
use Rattle.cedar_interpreter.specs.DirectEvaluators.{HasDirectPairs}
use Rattle.cedar_interpreter.proofs.DirectEvaluatorLaws.{made_of, record_direct}
use Rattle.cedar_interpreter.proofs.direct_evaluators.EvaluatorAbove.evaluate_record.Goals as goal

pub returns-in-Ok-Some : goal.returns-in-Ok-Some
returns-in-Ok-Some g c r k speaks low =
    let direct : HasDirectPairs c.args.within.now g.T.DirectEvaluator.height c.args.pairs.now.entries (Ok (Some (c.in-Ok-Some.keys, c.in-Ok-Some.values))) = subst (λ o. HasDirectPairs c.args.within.now g.T.DirectEvaluator.height c.args.pairs.now.entries (Ok o)) c.in-Ok-Some.field-0-is c.in-Ok-Some.ensures in
    let ks = c.in-Ok-Some.keys in
    let vs = c.in-Ok-Some.values in
    record_direct (evaluation_setting r c.args.within.now) (calls_in c.args.within.now) k c.args.pairs.now.entries ks vs c.value_or_none.result direct.0 direct.1 direct.2 direct.3 (direct.4 r k speaks low)
    (made_of c.record_value.result c.value_or_none.result (λ v. v.what ≡ record_represented (represented_fields_of (each_under (texts_of ks.items) (whats vs.items)))) c.record_value.ensures.what c.value_or_none.ensures)
