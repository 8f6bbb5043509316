use Rattle.std.proofs.Common.{◌∙◌, [], ◌∷◌, map, ℕ, Option, sym, ap}
use Rattle.std.proofs.lemmas.List.{map-append}
use Rattle.cedar_names.specs.Leaves.{part_view}
use Rattle.cedar_sql.specs.Patterns.{characters, behind}
use Rattle.cedar_sql.proofs.Walks.{behind_or, behind_last}
use Rattle.cedar_sql.proofs.patterns.behind_of.Goals as goal

pub returns-in-Some-next_of : goal.returns-in-Some-next_of
returns-in-Some-next_of c =
    let whole = c.in-Some.ensures.cases.0 in
    let step = behind_last (part_view c.in-Some.last.now) (map part_view c.in-Some.front.now) in
    ap (λ (o : Option ℕ). behind_or o (map part_view c.in-Some.front.now)) (sym c.in-Some-next_of.is ∙ c.next_of.ensures)
    ∙ sym step ∙ ap (λ ps. behind (characters ps)) (sym (map-append part_view c.in-Some.front.now (c.in-Some.last.now ∷ [])))
    ∙ ap (λ ps. behind (characters (map part_view ps))) (sym whole) ∙ c.parts.invariant

pub parts-preserved : goal.parts-preserved
parts-preserved c =
    let whole = c.in-Some.ensures.cases.0 in
    let step = behind_last (part_view c.in-Some.last.now) (map part_view c.in-Some.front.now) in
    ap (λ (o : Option ℕ). behind_or o (map part_view c.in-Some.front.now)) (sym c.in-None-next_of.is ∙ c.next_of.ensures)
    ∙ sym step ∙ ap (λ ps. behind (characters ps)) (sym (map-append part_view c.in-Some.front.now (c.in-Some.last.now ∷ [])))
    ∙ ap (λ ps. behind (characters (map part_view ps))) (sym whole) ∙ c.parts.invariant
