-- Levels: the lower a level, the closer what it makes holds together.
--   0 a number that stands alone, 1 what needs no brackets anywhere, 2 signs, 3 products, 4 sums, 5 relations, 6 `&&`,
--   7 `||`, 8 `if`
use Rattle.std.specs.Prelude.{◌≡◌, ℕ, ◌<◌, List, [], ◌∷◌, ⊤, Option, Some, None}
use Rattle.cedar_text_syntax.specs.declared.levels.Operator.{Operator}
use Rattle.cedar_text_syntax.specs.declared.levels.Operator.TheVariants as operator
use Rattle.cedar_text_syntax.specs.declared.steps.Sign.{Sign}
use Rattle.cedar_text_syntax.specs.declared.steps.Sign.TheVariants.{Not, Neg}
use Rattle.cedar_text_syntax.specs.declared.frames.Frame.{Frame}
use Rattle.cedar_text_syntax.specs.declared.frames.Wait.{Wait}
use Rattle.cedar_text_syntax.specs.declared.frames.Wait.TheVariants as wait

-- the level of what an operator makes
abbrev pub level_of : Operator → ℕ
level_of operator.Or = 7
level_of operator.And = 6
level_of operator.Equal = 5
level_of operator.NotEqual = 5
level_of operator.Less = 5
level_of operator.LessEqual = 5
level_of operator.Greater = 5
level_of operator.GreaterEqual = 5
level_of operator.In = 5
level_of operator.Add = 4
level_of operator.Sub = 4
level_of operator.Mul = 3

-- the highest level that it takes on its left: a relation takes no relation
abbrev pub left_level_of : Operator → ℕ
left_level_of operator.Or = 7
left_level_of operator.And = 6
left_level_of operator.Equal = 4
left_level_of operator.NotEqual = 4
left_level_of operator.Less = 4
left_level_of operator.LessEqual = 4
left_level_of operator.Greater = 4
left_level_of operator.GreaterEqual = 4
left_level_of operator.In = 4
left_level_of operator.Add = 4
left_level_of operator.Sub = 4
left_level_of operator.Mul = 3

-- the lowest level that a sign takes: a minus before a number that stands alone is the number's own
abbrev pub lowest_of : Sign → ℕ
lowest_of Not = 0
lowest_of Neg = 1

-- the level below which the part is that is waited for
abbrev pub awaited_of : Wait → ℕ
awaited_of (wait.Infix o) = level_of o
awaited_of (wait.Signs u c) = 2
awaited_of (wait.IsIn i k) = 5
awaited_of wait.Paren = 9
awaited_of (wait.Clause i) = 9
awaited_of (wait.Item k n) = 9
awaited_of (wait.Field i n) = 9
awaited_of wait.If = 9
awaited_of wait.Then = 9
awaited_of wait.Else = 9

-- the level of what a frame waits to make, or that of brackets
abbrev pub frame_level_of : Wait → ℕ
frame_level_of (wait.Infix o) = level_of o
frame_level_of (wait.Signs u c) = 2
frame_level_of (wait.IsIn i k) = 5
frame_level_of wait.Paren = 9
frame_level_of (wait.Clause i) = 9
frame_level_of (wait.Item k n) = 9
frame_level_of (wait.Field i n) = 9
frame_level_of wait.If = 9
frame_level_of wait.Then = 9
frame_level_of wait.Else = 8

-- the level below which the part is that the frames wait for
abbrev pub awaited : List Frame → ℕ
awaited [] = 9
awaited (f ∷ fs) = awaited_of f.wait

-- what the innermost frame waits to make is above this level
abbrev pub IsAbove : ℕ → List Frame → Type 0
IsAbove l [] = ⊤
IsAbove l (f ∷ fs) = l < frame_level_of f.wait

-- how many signs of this kind wait
abbrev pub count_of : Wait → Sign → Option ℕ
count_of (wait.Signs Not c) Not = Some c
count_of (wait.Signs Not c) Neg = None
count_of (wait.Signs Neg c) Not = None
count_of (wait.Signs Neg c) Neg = Some c
count_of (wait.Infix o) u = None
count_of (wait.IsIn i k) u = None
count_of wait.Paren u = None
count_of (wait.Clause i) u = None
count_of (wait.Item k n) u = None
count_of (wait.Field i n) u = None
count_of wait.If u = None
count_of wait.Then u = None
count_of wait.Else u = None

-- in the innermost frame no signs of this kind wait
abbrev pub HasNoSigns : Sign → List Frame → Type 0
HasNoSigns u [] = ⊤
HasNoSigns u (f ∷ fs) = count_of f.wait u ≡ None

-- this frame is the innermost
abbrev pub HasOnTop : List Frame → Frame → Type 0
HasOnTop [] f = ⊥
HasOnTop (g ∷ gs) f = g ≡ f
