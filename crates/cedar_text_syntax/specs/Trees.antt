-- Expressions as trees, with the numbers of their tokens, and the bytes from which and up to which each part stands.
use Rattle.std.specs.Prelude.{ℕ, ◌+◌, ◌≤◌, List, [], ◌∷◌, length, ⊤}
use Rattle.std.specs.Coded.{×_prop, Unit-prop, le_prop}
use Prim.Native.Nat.{max, zero, suc}
use Rattle.cedar_text_syntax.specs.declared.steps.Leaf.{Leaf}
use Rattle.cedar_text_syntax.specs.declared.steps.Sign.{Sign}
use Rattle.cedar_text_syntax.specs.declared.steps.Unary.{Unary}
use Rattle.cedar_text_syntax.specs.declared.steps.Unary.TheVariants as unaries
use Rattle.cedar_text_syntax.specs.declared.steps.Binary.{Binary}
use Rattle.cedar_text_syntax.specs.declared.steps.Binary.TheVariants as binaries
use Rattle.cedar_text_syntax.specs.declared.steps.Bracketed.{Bracketed}
use Rattle.cedar_text_syntax.specs.declared.steps.What.{What}
use Rattle.cedar_text_syntax.specs.declared.steps.What.TheVariants as what
use Rattle.cedar_text_syntax.specs.declared.steps.Step.{Step}

mutual
  pub data Tree : Type 0 where
    leaf : Leaf → ℕ → ℕ → Tree
    unary : Unary → Tree → ℕ → ℕ → Tree
    binary : Binary → Tree → Tree → ℕ → ℕ → Tree
    conditional : Tree → Tree → Tree → ℕ → ℕ → Tree
    field : ℕ → Tree → ℕ → ℕ → Tree
    bracketed : Bracketed → Trees → ℕ → ℕ → Tree

  -- trees in order, the last outermost
  pub data Trees : Type 0 where
    none : Trees
    also : Trees → Tree → Trees

-- ---- how high a tree is, as an evaluator counts levels

-- how many levels an operator is above its parts: `is` with `in` stands for a `&&` of two relations
abbrev pub levels_of : Binary → ℕ
levels_of (binaries.IsIn i k) = 2
levels_of _ = 1

abbrev mutual
  pub height : Tree → ℕ
  height (leaf l s e) = 1
  height (unary u p s e) = height p + 1
  height (binary b p q s e) = max (height p) (height q) + levels_of b
  height (conditional p q r s e) = max (max (height p) (height q)) (height r) + 1
  height (field i p s e) = height p
  height (bracketed k ps s e) = tallest ps + 1

  -- how high the highest tree is
  pub tallest : Trees → ℕ
  tallest none = 0
  tallest (also ps p) = max (tallest ps) (height p)

-- ---- what steps make

abbrev pub count : Trees → ℕ
count none = 0
count (also ps p) = suc (count ps)

-- trees in order on a stack, the last on top
abbrev pub stacked : Trees → List Tree → List Tree
stacked none ts = ts
stacked (also ps p) ts = p ∷ stacked ps ts

-- so many trees from the top of a stack
abbrev pub gathered : ℕ → List Tree → Trees
gathered zero ts = none
gathered (suc n) [] = none
gathered (suc n) (t ∷ ts) = also (gathered n ts) t

-- what is left below them
abbrev pub left_below : ℕ → List Tree → List Tree
left_below zero ts = ts
left_below (suc n) [] = []
left_below (suc n) (t ∷ ts) = left_below n ts

-- the trees that no step has taken, the latest first, after a step more
abbrev pub made : What → ℕ → ℕ → List Tree → List Tree
made (what.Leaf l) s e ts = leaf l s e ∷ ts
made (what.Unary u) s e [] = []
made (what.Unary u) s e (p ∷ ts) = unary u p s e ∷ ts
made (what.Binary b) s e [] = []
made (what.Binary b) s e (q ∷ []) = []
made (what.Binary b) s e (q ∷ p ∷ ts) = binary b p q s e ∷ ts
made what.If s e [] = []
made what.If s e (r ∷ []) = []
made what.If s e (r ∷ q ∷ []) = []
made what.If s e (r ∷ q ∷ p ∷ ts) = conditional p q r s e ∷ ts
made (what.Field i) s e [] = []
made (what.Field i) s e (p ∷ ts) = field i p s e ∷ ts
made (what.Bracketed k n) s e ts = bracketed k (gathered n ts) s e ∷ left_below n ts

-- how many trees a step takes
abbrev pub parts_of : What → ℕ
parts_of (what.Leaf l) = 0
parts_of (what.Unary u) = 1
parts_of (what.Binary b) = 2
parts_of what.If = 3
parts_of (what.Field i) = 1
parts_of (what.Bracketed k n) = n

-- from these trees on, each step finds as many as it takes
abbrev pub FindParts : List Tree → List Step → Type 0
FindParts ts [] = ⊤
FindParts ts (x ∷ xs) = (parts_of x.what ≤ length ts) × FindParts (made x.what x.start x.end ts) xs

pub FindParts-prop : (ts : List Tree) (xs : List Step) → IsProp (FindParts ts xs)
FindParts-prop ts [] = Unit-prop
FindParts-prop ts (x ∷ xs) = ×_prop le_prop (FindParts-prop (made x.what x.start x.end ts) xs)

-- the trees that no step has taken after all steps, from these trees on
abbrev pub trees_from : List Tree → List Step → List Tree
trees_from ts [] = ts
trees_from ts (x ∷ xs) = trees_from (made x.what x.start x.end ts) xs

-- the trees that the steps make
abbrev pub trees : List Step → List Tree
trees xs = trees_from [] xs

-- a part with so many signs, each of which stands where all do
abbrev pub signed : Sign → ℕ → Tree → ℕ → ℕ → Tree
signed u zero p s e = p
signed u (suc c) p s e = unary (unaries.Sign u) (signed u c p s e) s e

-- the trees after so many steps that put a sign before the last
abbrev pub signs_made : Sign → ℕ → ℕ → ℕ → List Tree → List Tree
signs_made u zero s e ts = ts
signs_made u (suc c) s e ts = made (what.Unary (unaries.Sign u)) s e (signs_made u c s e ts)
