use Rattle.std.proofs.Common.{◌≡◌, suc, ◌+◌, ◌∷◌, ◌++◌, map, drop, sym, ap, ◌∙◌, string_bytes, arith}
use Rattle.std.proofs.Math.Seq.{drop-cons}
use Rattle.std.proofs.lemmas.List.{drop_all}
use Rattle.json.specs.Json.{string, array}
use Rattle.json.specs.Value.{items_of}
use Rattle.cedar_json_writer.specs.Trees.{json_view}
use Rattle.cedar_json_writer.proofs.Listed.{no_more}
use Rattle.cedar_json_writer.proofs.Trees.{view_array}
use Rattle.cedar_expectations.specs.Lists.{unless_in, only_in}
use Rattle.cedar_expectations.proofs.Listing.{goes_on, strings_split}
use Rattle.cedar_expectations.proofs.lists.only_in.Goals as goal

pub texts-preserved : goal.texts-preserved
texts-preserved c =
    let others = map string_bytes c.args.others.now in
    let items = c.args.texts.now in
    let i = c.texts.text-index in
    let item = c.text-item.result in
    let more : suc i ≡ i + 1 = omega arith in
    let next : drop i items ≡ item ∷ drop (i + 1) items =
    drop-cons items i item c.texts-test.true ∙ ap (λ p. p ∷ drop (suc i) items) (sym c.text-item.is)
    ∙ ap (λ j. item ∷ drop j items) more in
    let one = unless_in others (string_bytes item) in
    let rest = only_in (map string_bytes (drop (i + 1) items)) others in
    goes_on (map json_view c.texts.items.items) _ _ (map string one) (map string rest) _
    (c.in_ok-put_unless_in.ensures
    ∙ ap (λ t. map json_view c.texts.items.items ++ map string (unless_in others t)) c.as_str.ensures.value)
    (ap (λ ts. map string (only_in (map string_bytes ts) others)) next ∙ strings_split one rest)
    c.texts.invariant

pub returns : goal.returns
returns c =
    let others = map string_bytes c.args.others.now in
    view_array c.texts.items
    ∙ ap array (ap items_of (no_more _ _ _
    (ap (λ ts. map string (only_in (map string_bytes ts) others))
    (drop_all c.texts.text-index c.args.texts.now c.texts-test.false)) c.texts.invariant))
