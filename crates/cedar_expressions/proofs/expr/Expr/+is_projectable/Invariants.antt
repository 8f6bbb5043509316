use Rattle.std.proofs.Common.{◌≡◌, drop}
use Rattle.cedar_model.specs.Shapes.{are_projectable, are_projectable_at}
use Rattle.cedar_expressions.specs.View.{terms_view, fields_view}
use Rattle.cedar_expressions.proofs.expr.Expr.+is_projectable.Given as goal

-- each part seen so far is projectable
abbrev pub invariant-are_projectable-parts : goal.invariant-are_projectable-parts
invariant-are_projectable-parts l =
    are_projectable (terms_view (drop l.part-index l.parts.items)) ≡ are_projectable (terms_view l.parts.items)

abbrev pub invariant-are_projectable_at-pairs : goal.invariant-are_projectable_at-pairs
invariant-are_projectable_at-pairs l =
    are_projectable_at (fields_view l.part-iterator) ≡ are_projectable_at (fields_view l.pairs.entries)
