use Rattle.std.proofs.Common.{◌≡◌, ◌∙◌, ap, sym, length, Some, option_map, string_bytes}
use Rattle.json.specs.Find.{as_array}
use Rattle.json.specs.Value.{value_view, items_view}
use Rattle.cedar_log.specs.Exchanges.{count, items_text, listed_text}
use Rattle.cedar_log.proofs.Items.{counted}
use Rattle.cedar_log.proofs.Carried.{as_text}
use Rattle.cedar_log.proofs.Views.{view_array}
use Rattle.cedar_log.proofs.exchanges.listed_text.Goals as goal

pub returns-in-Array : goal.returns-in-Array
returns-in-Array c =
    let stamp = c.args.stamp.now in
    let j = value_view c.args.asked.now in
    let a = value_view c.args.answered.now in
    let answers = value_view c.args.answers.now in
    let vs = c.in-Array.items.items in
    let list : as_array answers ≡ Some (items_view vs) = ap (λ v. as_array (value_view v)) c.in-Array.is ∙ ap as_array (view_array c.in-Array.items) in
    let many : length c.as_slice.result.now ≡ count (items_view vs) = ap (λ l. length l) c.as_slice.ensures.value ∙ sym (counted vs) in
    let e : items_text stamp j (option_map (λ v. value_view v.now) c.within.result) answers (length c.as_slice.result.now)
    ≡ listed_text stamp j a answers (as_array answers) =
    (λ i. items_text stamp j (c.within.ensures.value i) answers (many i)) ∙ ap (listed_text stamp j a answers) (sym list) in
    as_text string_bytes _ _ e c.items_text.result c.items_text.ensures
