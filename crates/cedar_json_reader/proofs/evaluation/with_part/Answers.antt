use Rattle.std.proofs.Common.{List, sym, subst, Global}
use Rattle.std.specs.Rc.{rc_str_bytes}
use Rattle.std.specs.declared.rc.RcStr.{RcStr}
use Rattle.cedar_expressions.specs.Records.{put_field}
use Rattle.cedar_values.specs.declared.partial_value.PartialValue.{PartialValue}
use Rattle.cedar_layers.specs.Parts.{parts_view}
use Rattle.cedar_restricted.specs.Evaluators.{extensions_read, calls_in, limit_of}
use Rattle.cedar_restricted.specs.Views.{restricted_term}
use Rattle.cedar_json_reader.specs.Evaluated.{AreAnswered}
use Rattle.cedar_json_reader.proofs.Answered.{answered_insert}
use Rattle.cedar_json_reader.proofs.evaluation.with_part.Goals as goal

pub returns-in-Ok-with-clause-adds : goal.returns-in-Ok-with-clause-adds
returns-in-Ok-with-clause-adds g c =
    let x = extensions_read c.args.evaluator.now in
    let calls = calls_in c.args.evaluator.now in
    let n = limit_of c.args.evaluator.now in
    let t = restricted_term c.args.expr in
    λ fs h. subst (λ (es : List (RcStr Global × PartialValue)). AreAnswered x calls n (put_field fs (rc_str_bytes c.args.key) t) (parts_view es)) (sym c.in-Ok-with.ensures)
    (answered_insert x calls n fs c.args.parts.map.entries c.args.key t c.in-Ok.part h c.in-Ok.ensures.answer)
