use Rattle.std.proofs.Common.{◌≡◌, suc, ◌+◌, ◌-◌, ◌≤◌, [], ◌++◌, take, drop, length, ap, sym, ◌∙◌, arith}
use Rattle.std.proofs.lemmas.List.{take_all, length-drop}
use Rattle.cedar_reasons.specs.Facts.{facts_view, fact_view}
use Rattle.cedar_minimal_reasons.proofs.Leaving.{without_map}
use Rattle.cedar_minimal_reasons.proofs.thinning.without.Goals as goal

pub returns : goal.returns
returns c =
    let xs = c.args.facts.now in
    let i = c.args.at in
    let more : suc i ≡ i + 1 = omega arith in
    let long : length (drop (i + 1) xs) ≡ length xs - (i + 1) = length-drop (i + 1) xs in
    let behind : take (length xs - (i + 1)) (drop (i + 1) xs) ≡ drop (suc i) xs = take_all (length xs - (i + 1)) (drop (i + 1) xs) (omega arith) ∙ ap (λ j. drop j xs) (sym more) in
    let front : c.add_all.new.facts.items ≡ take i xs = c.in_ok-add_all.ensures ∙ ap (λ l. l ++ take i xs) c.new-rest.ensures.items in
    ap facts_view (c.in_ok-add_all-2.ensures ∙ (λ k. front k ++ behind k)) ∙ without_map fact_view i xs
