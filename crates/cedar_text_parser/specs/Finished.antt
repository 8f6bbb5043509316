-- The finished expressions on the stack of a builder, with and without keys.
use Rattle.std.specs.Prelude.{ℕ, List, [], ◌∷◌, map, reverse, None, Some}
use Rattle.std.specs.declared.alloc.Global.{Global}
use Rattle.std.specs.declared.rc.RcStr.{RcStr}
use Rattle.cedar_expressions.specs.declared.expr.Expr.{Expr}
use Rattle.cedar_text_parser.specs.declared.builder.Builder.{Builder}
use Rattle.cedar_text_parser.specs.declared.builder.Part.{Part}

-- the finished parts, the latest first
abbrev pub finished : Builder → List Part
finished b = reverse b.parts.items

-- an expression that is no field
abbrev pub unkeyed : Expr → Part
unkeyed x = record { key = None; expr = x }

-- an expression under the key that this token names
abbrev pub keyed : ℕ → RcStr Global → Expr → Part
keyed i key x = record { key = Some (record { at = i; text = key }); expr = x }

-- expressions that are no fields
abbrev pub all_unkeyed : List Expr → List Part
all_unkeyed xs = map unkeyed xs

-- expressions under their keys, which these tokens name
abbrev pub all_keyed : List ℕ → List (RcStr Global × Expr) → List Part
all_keyed [] fs = []
all_keyed (i ∷ is) [] = []
all_keyed (i ∷ is) (f ∷ fs) = keyed i f.0 f.1 ∷ all_keyed is fs
