use Rattle.std.proofs.Common.{◌≡◌, ◌++◌, map, option_map}
use Rattle.std.specs.Vec.Iter.{into_iter_items}
use Rattle.cedar_expressions.specs.View.{view}
use Rattle.cedar_builder.specs.Building.{terms_of_all}
use Rattle.cedar_builder.proofs.expressions.lists.each_part.Given as goal

-- what is left, behind what was made, is all
abbrev pub invariant-parts : goal.invariant-parts
invariant-parts l =
    option_map (λ ts. map view l.made.items ++ ts) (terms_of_all (into_iter_items l.part-iterator)) ≡ terms_of_all l.fn.parts.items
