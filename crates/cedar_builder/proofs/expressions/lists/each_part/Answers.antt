use Rattle.std.proofs.Common.{◌≡◌, ◌∷◌, ◌++◌, map, option_map, ap, sym, ◌∙◌}
use Rattle.std.specs.Vec.Iter.{into_iter_items}
use Rattle.cedar_expressions.specs.View.{view}
use Rattle.cedar_builder.specs.Building.{terms_of_all}
use Rattle.cedar_builder.proofs.Lists.{part_put}
use Rattle.cedar_builder.proofs.expressions.lists.each_part.Goals as goal

pub parts-preserved : goal.parts-preserved
parts-preserved c =
    let next : into_iter_items c.parts.part-iterator ≡ c.in-Some.part ∷ into_iter_items c.next.new.self = c.in-Some.ensures.steps.0 in
    part_put _ _ c.in-Some.part.built (terms_of_all (into_iter_items c.next.new.self)) c.in_ok-put_part.ensures
    ∙ ap (λ bs. option_map (λ ts. map view c.parts.made.items ++ ts) (terms_of_all bs)) (sym next)
    ∙ c.parts.invariant
