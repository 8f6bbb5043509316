-- The walk over the attributes of a context.
use Rattle.std.specs.Prelude.{◌≡◌, ◌-◌, List, [], ◌∷◌, map, length, drop}
use Rattle.std.specs.Prelude.{Option, Some, None, Result, Ok, Err}
use Rattle.std.specs.Rc.{rc_str_bytes}
use Rattle.std.specs.declared.alloc.AllocError.{AllocError}
use Rattle.std.specs.declared.alloc.Global.{Global}
use Rattle.std.specs.declared.rc.RcStr.{RcStr}
use Rattle.cedar_model.specs.Terms.{Text, Term}
use Rattle.cedar_model.specs.Values.{expression_of}
use Rattle.cedar_names.specs.declared.names.Loc.{Loc}
use Rattle.cedar_expressions.specs.declared.expr.Expr.{Expr}
use Rattle.cedar_expressions.specs.View.{view, expr_loc}
use Rattle.cedar_values.specs.Sound.{Placed}
use Rattle.cedar_restricted.specs.declared.restricted_expr.RestrictedExpr.{RestrictedExpr}
use Rattle.cedar_restricted.specs.Views.{restricted_term, restricted_loc}
use Rattle.cedar_requests.specs.declared.context.Context.{Context}
use Rattle.cedar_requests.specs.declared.context.pairs.ContextPairs.{ContextPairs}
use Rattle.cedar_requests.specs.declared.context.pairs.ContextPairs.TheVariants as kinds
use Rattle.cedar_requests.specs.declared.context.walk.IntoIter.{IntoIter}
use Rattle.cedar_requests.specs.declared.context.walk.LackingIter.{LackingIter}
use Rattle.cedar_requests.specs.declared.context.walk.PairsIter.{PairsIter}
use Rattle.cedar_requests.specs.declared.context.walk.PairsIter.TheVariants as walks
use Rattle.cedar_requests.specs.declared.context.walk.ResidualIter.{ResidualIter}
use Rattle.cedar_requests.specs.Contexts.{residual_map}

-- an attribute: its name, its expression, and where that stands
abbrev pub Attribute : Type 0
Attribute = Text × (Term × Option Loc)

abbrev pub attribute_given : RcStr Global × RestrictedExpr → Attribute
attribute_given a = (rc_str_bytes a.0, (restricted_term a.1, restricted_loc a.1))

-- a value is written as its expression
abbrev pub value_attribute : RcStr Global × Placed → Attribute
value_attribute a = (rc_str_bytes a.0, (expression_of a.1.what, a.1.loc))

abbrev pub expr_attribute : RcStr Global × Expr → Attribute
expr_attribute a = (rc_str_bytes a.0, (view a.1, expr_loc a.1))

-- ---- what a context has, in the order of its map

abbrev pub pairs_attributes : ContextPairs → List Attribute
pairs_attributes (kinds.Values m) = map value_attribute m.entries
pairs_attributes (kinds.Residual r) = map expr_attribute (residual_map r).entries

abbrev pub context_attributes : Context → List Attribute
context_attributes c = pairs_attributes c.pairs

-- the names of attributes
abbrev pub attribute_names : List Attribute → List Text
attribute_names = map (λ a. a.0)

-- ---- what a walk has still to give

abbrev pub exprs_left : ResidualIter → List Attribute
exprs_left r = map expr_attribute r.pairs

-- of values that can't be copied, the last so many
abbrev pub lacking_left : LackingIter → List Attribute
lacking_left s = drop (length s.values.value.entries - s.left) (map value_attribute s.values.value.entries)

abbrev pub pairs_left : PairsIter → List Attribute
pairs_left (walks.Values ps) = map value_attribute ps
pairs_left (walks.Lacking s) = lacking_left s
pairs_left (walks.Residual r) = exprs_left r

abbrev pub attributes_left : IntoIter → List Attribute
attributes_left s = pairs_left s.pairs

-- the first of what was left is given, or an error in its place; then the others are left
abbrev pub GivesAttribute : List Attribute → Option (Result (RcStr Global × RestrictedExpr) AllocError)
    → List Attribute → Type 0
GivesAttribute before None after = (before ≡ []) × (after ≡ [])
GivesAttribute before (Some (Ok a)) after = before ≡ attribute_given a ∷ after
GivesAttribute before (Some (Err e)) after = (a : Attribute) × (before ≡ a ∷ after)

-- the first of what was left is passed; then the others are left
abbrev pub PassesOne : List Attribute → Option AllocError → List Attribute → Type 0
PassesOne before None after = (before ≡ []) × (after ≡ [])
PassesOne before (Some e) after = (a : Attribute) × (before ≡ a ∷ after)
