use Rattle.std.proofs.Common.{◌≡◌, drop}
use Rattle.cedar_model.specs.Shapes.{have_unknown, have_unknown_at}
use Rattle.cedar_expressions.specs.View.{terms_view, fields_view}
use Rattle.cedar_expressions.proofs.expr.Expr.+has_unknown.Given as goal

-- none of the parts seen so far has an unknown
abbrev pub invariant-have_unknown-parts : goal.invariant-have_unknown-parts
invariant-have_unknown-parts l =
    have_unknown (terms_view (drop l.part-index l.parts.items)) ≡ have_unknown (terms_view l.parts.items)

abbrev pub invariant-have_unknown_at-pairs : goal.invariant-have_unknown_at-pairs
invariant-have_unknown_at-pairs l =
    have_unknown_at (fields_view l.part-iterator) ≡ have_unknown_at (fields_view l.pairs.entries)
