use Rattle.std.proofs.Common.{◌≡◌, ◌∙◌, ◌++◌, sym, Some, option_map}
use Rattle.json.specs.Value.{value_view}
use Rattle.cedar_log.specs.Lines.{nth}
use Rattle.cedar_log.specs.Exchanges.{item_text}
use Rattle.cedar_log.proofs.Items.{no_text, next_text}
use Rattle.cedar_log.proofs.exchanges.items_text.Goals as goal

pub items-init : goal.items-init
items-init c =
    c.new-lines.ensures.bytes
    ∙ sym (no_text c.args.stamp.now (value_view c.args.all.now) (option_map (λ v. value_view v.now) c.args.asked)
    (value_view c.args.answers.now))

pub items-preserved : goal.items-preserved
items-preserved c =
    let all = value_view c.args.all.now in
    let asked = option_map (λ v. value_view v.now) c.args.asked in
    let answers = value_view c.args.answers.now in
    let line : c.as_str.result.now ≡ item_text c.args.stamp.now all (nth c.items.index asked) (nth c.items.index (Some answers)) =
    c.as_str.ensures.value ∙ c.in_ok-line.ensures in
    c.in_ok-push_str.ensures.bytes
    ∙ ((λ i. c.items.invariant i ++ line i) ∙ sym (next_text c.args.stamp.now all asked answers c.items.index))
