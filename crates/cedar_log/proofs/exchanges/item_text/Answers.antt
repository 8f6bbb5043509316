use Rattle.std.proofs.Common.{◌≡◌, ◌∙◌, ap, Some, option_map, string_bytes}
use Rattle.json.specs.Value.{value_view}
use Rattle.cedar_log.specs.Lines.{nth, found_text, request_text, decision_line}
use Rattle.cedar_log.proofs.Carried.{as_text}
use Rattle.cedar_log.proofs.exchanges.item_text.Goals as goal

pub returns : goal.returns
returns c =
    let all = value_view c.args.all.now in
    let request : c.as_str.result.now ≡ request_text (nth c.args.index (option_map (λ v. value_view v.now) c.args.asked)) all =
    c.as_str.ensures.value ∙ (c.in_ok-request.ensures ∙ ap (λ o. request_text o all) c.nth.ensures.value) in
    let answer : c.as_str-2.result.now ≡ found_text (nth c.args.index (Some (value_view c.args.answers.now))) =
    c.as_str-2.ensures.value ∙ c.in_ok-answer.ensures in
    as_text string_bytes _ _ (λ i. decision_line c.args.stamp.now (request i) (answer i)) c.decision_line.result
    c.decision_line.ensures
