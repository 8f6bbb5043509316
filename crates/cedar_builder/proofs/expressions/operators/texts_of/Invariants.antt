use Rattle.std.proofs.Common.{◌≡◌, map, take}
use Rattle.cedar_names.specs.Leaves.{texts_view}
use Rattle.cedar_builder.proofs.expressions.operators.texts_of.Given as goal

-- what was made is what was gone over
abbrev pub invariant-texts : goal.invariant-texts
invariant-texts l = texts_view l.made.items ≡ take l.i (map (λ t. t.now) l.texts)
