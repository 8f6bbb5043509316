use Rattle.std.proofs.Common.{◌≡◌, ◌∙◌, None, string_bytes}
use Rattle.json.specs.Value.{value_view}
use Rattle.cedar_log.specs.Lines.{json_text, request_text, decision_line}
use Rattle.cedar_log.proofs.Carried.{as_text}
use Rattle.cedar_log.proofs.exchanges.single_text.Goals as goal

pub returns : goal.returns
returns c =
    let request : c.as_str.result.now ≡ request_text None (value_view c.args.asked.now) =
    c.as_str.ensures.value ∙ c.in_ok-request.ensures in
    let answer : c.as_str-2.result.now ≡ json_text (value_view c.args.answered.now) =
    c.as_str-2.ensures.value ∙ c.in_ok-answer.ensures in
    as_text string_bytes _ _ (λ i. decision_line c.args.stamp.now (request i) (answer i)) c.decision_line.result
    c.decision_line.ensures
