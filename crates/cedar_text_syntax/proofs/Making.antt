-- What a step more makes.
use Rattle.std.proofs.Common.{◌≡◌, List, [], ◌∷◌, ◌++◌, refl}
use Rattle.cedar_text_syntax.specs.declared.steps.Step.{Step}
use Rattle.cedar_text_syntax.specs.Trees.{Tree, made, trees_from, trees}

trees_from-push : (ts : List Tree) (xs : List Step) (x : Step) →
    trees_from ts (xs ++ x ∷ []) ≡ made x.what x.start x.end (trees_from ts xs)
trees_from-push ts [] x = refl
trees_from-push ts (y ∷ xs) x = trees_from-push (made y.what y.start y.end ts) xs x

-- the trees after a step more
pub trees_push : (xs : List Step) (x : Step) → trees (xs ++ x ∷ []) ≡ made x.what x.start x.end (trees xs)
trees_push xs x = trees_from-push [] xs x
