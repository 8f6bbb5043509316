-- Pairs under their names that were copied one by one.
use Rattle.std.proofs.Common.{◌≡◌, List, [], ◌∷◌, map, Global, refl}
use Rattle.std.specs.List.{AllZip}
use Rattle.std.specs.Rc.{rc_str_bytes}
use Rattle.std.specs.declared.rc.RcStr.{RcStr}
use Rattle.cedar_model.specs.Terms.{one_field}
use Rattle.cedar_model.specs.Values.{one_represented_at, expression_of}
use Rattle.cedar_expressions.specs.declared.expr.Expr.{Expr}
use Rattle.cedar_expressions.specs.View.{view, fields_view, expr_loc}
use Rattle.cedar_expressions.specs.Nodes.{parts_of}
use Rattle.cedar_values.specs.Sound.{Placed, whats_at}
use Rattle.cedar_requests.specs.Walks.{value_attribute}

abbrev pub ValuePair : Type 0
ValuePair = RcStr Global × Placed

abbrev pub ExprPair : Type 0
ExprPair = RcStr Global × Expr

-- the name has the same text, and the value is the same
abbrev pub IsCopy : ValuePair → ValuePair → Type 0
IsCopy e f = (rc_str_bytes f.0 ≡ rc_str_bytes e.0) × (f.1 ≡ e.1)

-- the name has the same text, and the expression the same term, location and parts
abbrev pub IsExprCopy : ExprPair → ExprPair → Type 0
IsExprCopy e f = (rc_str_bytes f.0 ≡ rc_str_bytes e.0) ×
    ((view f.1 ≡ view e.1) × (expr_loc f.1 ≡ expr_loc e.1) × (parts_of f.1 ≡ parts_of e.1))

-- the values are the same under the same names
pub whats_at-copied : (es fs : List ValuePair) → AllZip IsCopy es fs → whats_at fs ≡ whats_at es
whats_at-copied [] [] h = refl
whats_at-copied [] (f ∷ fs) h = absurd h
whats_at-copied (e ∷ es) [] h = absurd h
whats_at-copied (e ∷ es) (f ∷ fs) h = λ i. one_represented_at (h.0.0 i) (h.0.1 i).what (whats_at-copied es fs h.1 i)

-- and they stand where they stood
pub locs-copied : (es fs : List ValuePair) → AllZip IsCopy es fs → map (λ (p : ValuePair). p.1.loc) fs
    ≡ map (λ (p : ValuePair). p.1.loc) es
locs-copied [] [] h = refl
locs-copied [] (f ∷ fs) h = absurd h
locs-copied (e ∷ es) [] h = absurd h
locs-copied (e ∷ es) (f ∷ fs) h = λ i. (h.0.1 i).loc ∷ locs-copied es fs h.1 i

-- and a walk gives the same of them
pub attributes-copied : (es fs : List ValuePair) → AllZip IsCopy es fs
    → map value_attribute fs ≡ map value_attribute es
attributes-copied [] [] h = refl
attributes-copied [] (f ∷ fs) h = absurd h
attributes-copied (e ∷ es) [] h = absurd h
attributes-copied (e ∷ es) (f ∷ fs) h =
    λ i. (h.0.0 i, (expression_of (h.0.1 i).what, (h.0.1 i).loc)) ∷ attributes-copied es fs h.1 i

-- the terms are the same under the same names
pub fields_view-copied : (es fs : List ExprPair) → AllZip IsExprCopy es fs → fields_view fs ≡ fields_view es
fields_view-copied [] [] h = refl
fields_view-copied [] (f ∷ fs) h = absurd h
fields_view-copied (e ∷ es) [] h = absurd h
fields_view-copied (e ∷ es) (f ∷ fs) h = λ i. one_field (h.0.0 i) (h.0.1.0 i) (fields_view-copied es fs h.1 i)

-- and they stand where they stood
pub expr_locs-copied : (es fs : List ExprPair) → AllZip IsExprCopy es fs → map (λ (p : ExprPair). expr_loc p.1) fs
    ≡ map (λ (p : ExprPair). expr_loc p.1) es
expr_locs-copied [] [] h = refl
expr_locs-copied [] (f ∷ fs) h = absurd h
expr_locs-copied (e ∷ es) [] h = absurd h
expr_locs-copied (e ∷ es) (f ∷ fs) h = λ i. h.0.1.1 i ∷ expr_locs-copied es fs h.1 i
