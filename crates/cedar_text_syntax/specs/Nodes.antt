-- How many nodes are built of a tree.
use Rattle.std.specs.Prelude.{ℕ, ◌+◌, ◌-◌, ◌*◌, ◌≤◌, List, [], ◌∷◌, ⊤}
use Prim.Native.Nat.{zero, suc}
use Rattle.cedar_text_lexer.specs.declared.tokens.Token.{Token}
use Rattle.cedar_text_lexer.specs.Sequence.{start_at, end_at}
use Rattle.cedar_text_syntax.specs.Places.{end_of}
use Rattle.cedar_text_syntax.specs.Trees.{Tree, leaf, unary, binary, conditional, field, bracketed, Trees, none, also}
use Rattle.cedar_text_syntax.specs.declared.steps.Binary.{Binary}
use Rattle.cedar_text_syntax.specs.declared.steps.Binary.TheVariants as binaries
use Rattle.cedar_text_syntax.specs.declared.steps.What.{What}
use Rattle.cedar_text_syntax.specs.declared.steps.What.TheVariants as what

-- what an operator makes of parts with so many nodes: `is` with `in` takes the left one twice, and adds three
abbrev pub joined : Binary → ℕ → ℕ → ℕ
joined (binaries.IsIn i k) m n = m + m + n + 3
joined binaries.Or m n = m + n + 1
joined binaries.And m n = m + n + 1
joined binaries.Equal m n = m + n + 1
joined binaries.Less m n = m + n + 1
joined binaries.LessEqual m n = m + n + 1
joined binaries.In m n = m + n + 1
joined binaries.Add m n = m + n + 1
joined binaries.Sub m n = m + n + 1
joined binaries.Mul m n = m + n + 1

abbrev mutual
  -- how many nodes are built of the tree
  pub nodes : Tree → ℕ
  nodes (leaf l s e) = 1
  nodes (unary u p s e) = nodes p + 1
  nodes (binary b p q s e) = joined b (nodes p) (nodes q)
  nodes (conditional p q r s e) = nodes p + nodes q + nodes r + 1
  nodes (field i p s e) = nodes p
  nodes (bracketed k ps s e) = total ps + 1

  -- how many are built of all these trees
  pub total : Trees → ℕ
  total none = 0
  total (also ps p) = total ps + nodes p

-- how many are built of each
abbrev pub each : List Tree → List ℕ
each [] = []
each (t ∷ ts) = nodes t ∷ each ts

-- the count on top of a stack is at most this
abbrev pub IsTopAtMost : ℕ → List ℕ → Type 0
IsTopAtMost most [] = ⊤
IsTopAtMost most (n ∷ ns) = n ≤ most

-- of the tree that was made last at most so many are built
abbrev pub HasAtMost : ℕ → List Tree → Type 0
HasAtMost most ts = IsTopAtMost most (each ts)

-- sixteen for each byte from the one up to the other
abbrev pub allowed : ℕ → ℕ → ℕ
allowed start end = (end - start) * 16

-- as many as an expression may have that all tokens write
abbrev pub allowed_of : List Token → ℕ
allowed_of all = allowed (start_at all 0) (end_of all)

-- as many as an expression may have that stands in the braces of these numbers
abbrev pub allowed_in : List Token → ℕ → ℕ → ℕ
allowed_in all i j = allowed (start_at all i) (end_at all j)

-- ---- the counts alone

-- the sum of so many counts from the top of a stack
abbrev pub sum_of : ℕ → List ℕ → ℕ
sum_of zero cs = 0
sum_of (suc n) [] = 0
sum_of (suc n) (c ∷ cs) = sum_of n cs + c

-- what is left below them
abbrev pub rest_of : ℕ → List ℕ → List ℕ
rest_of zero cs = cs
rest_of (suc n) [] = []
rest_of (suc n) (c ∷ cs) = rest_of n cs

-- the counts of the trees that no step has taken, the latest first, after a step more
abbrev pub counted : What → List ℕ → List ℕ
counted (what.Leaf l) cs = 1 ∷ cs
counted (what.Unary u) [] = []
counted (what.Unary u) (m ∷ cs) = (m + 1) ∷ cs
counted (what.Binary b) [] = []
counted (what.Binary b) (n ∷ []) = []
counted (what.Binary b) (n ∷ m ∷ cs) = joined b m n ∷ cs
counted what.If [] = []
counted what.If (o ∷ []) = []
counted what.If (o ∷ n ∷ []) = []
counted what.If (o ∷ n ∷ m ∷ cs) = (m + n + o + 1) ∷ cs
counted (what.Field i) [] = []
counted (what.Field i) (m ∷ cs) = m ∷ cs
counted (what.Bracketed k n) cs = (sum_of n cs + 1) ∷ rest_of n cs
