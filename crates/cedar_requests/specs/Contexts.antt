-- What a context says, as plain data.
use Rattle.std.specs.Prelude.{Bool, List, [], map, Option, Some, None}
use Rattle.std.specs.declared.alloc.Global.{Global}
use Rattle.std.specs.declared.rc.RcStr.{RcStr}
use Rattle.std.specs.declared.collections.BTreeMap.{BTreeMap}
use Rattle.cedar_model.specs.Terms.{Text, Fields}
use Rattle.cedar_model.specs.Values.{expressions_at}
use Rattle.cedar_model.specs.Failures as model
use Rattle.cedar_model.specs.Operators.{represented_names, field_names}
use Rattle.cedar_model.specs.Settings.{ContextPart, absent_context, known_context, residual_context, context_value}
use Rattle.cedar_names.specs.declared.names.Loc.{Loc}
use Rattle.cedar_expressions.specs.declared.expr.Expr.{Expr}
use Rattle.cedar_expressions.specs.View.{fields_view, expr_loc}
use Rattle.cedar_values.specs.Compared.{partial_eq}
use Rattle.cedar_values.specs.Sound.{whats_at}
pub use Rattle.cedar_requests.specs.ContextValues.{ValueMap, value_locs}
use Rattle.cedar_requests.specs.declared.context.Context.{Context}
use Rattle.cedar_requests.specs.declared.context.pairs.ContextPairs.{ContextPairs}
use Rattle.cedar_requests.specs.declared.context.pairs.ContextPairs.TheVariants as kinds
use Rattle.cedar_requests.specs.declared.context.pairs.ResidualPairs.{ResidualPairs}

abbrev pub ExprMap : Type 0
ExprMap = BTreeMap (RcStr Global) Expr Global

-- ---- residuals

abbrev pub residual_map : ResidualPairs → ExprMap
residual_map r = r.pairs

-- the terms under their names
abbrev pub residual_fields : ResidualPairs → Fields
residual_fields r = fields_view r.pairs.entries

-- where expressions stand
abbrev pub expr_locs : List Expr → List (Option Loc)
expr_locs es = map expr_loc es

-- and those under names
abbrev pub entry_locs : List (RcStr Global × Expr) → List (Option Loc)
entry_locs es = map (λ p. expr_loc p.1) es

-- where the expressions stand
abbrev pub residual_locs : ResidualPairs → List (Option Loc)
residual_locs r = entry_locs r.pairs.entries

-- ---- pairs

abbrev pub context_pairs_view : ContextPairs → ContextPart
context_pairs_view (kinds.Values m) = known_context (whats_at m.entries)
context_pairs_view (kinds.Residual r) = residual_context (residual_fields r)

-- where the values or expressions stand
abbrev pub pairs_locs : ContextPairs → List (Option Loc)
pairs_locs (kinds.Values m) = value_locs m
pairs_locs (kinds.Residual r) = residual_locs r

-- their terms under their names: a value is written as its expression
abbrev pub pairs_terms : ContextPairs → Fields
pairs_terms (kinds.Values m) = expressions_at (whats_at m.entries)
pairs_terms (kinds.Residual r) = residual_fields r

abbrev pub pairs_values : ContextPairs → Option ValueMap
pairs_values (kinds.Values m) = Some m
pairs_values (kinds.Residual r) = None

abbrev pub pairs_residual : ContextPairs → Option ExprMap
pairs_residual (kinds.Values m) = None
pairs_residual (kinds.Residual r) = Some (residual_map r)

-- ---- contexts

abbrev pub context_pairs : Context → ContextPairs
context_pairs c = c.pairs

-- what a context says
abbrev pub context_view : Context → ContextPart
context_view c = context_pairs_view c.pairs

-- where its values or expressions stand
abbrev pub context_locs : Context → List (Option Loc)
context_locs c = pairs_locs c.pairs

-- the values of a context under their names, as a map
abbrev pub context_values : Context → Option ValueMap
context_values c = pairs_values c.pairs

-- the expressions of a residual under their names, as a map
abbrev pub context_residual : Context → Option ExprMap
context_residual c = pairs_residual c.pairs

-- the names of a context's attributes
abbrev pub context_keys : ContextPart → List Text
context_keys absent_context = []
context_keys (known_context fs) = represented_names fs
context_keys (residual_context fs) = field_names fs

-- the record that a context is
abbrev pub context_part_value : Context → model.PartialValue
context_part_value c = context_value (context_view c)

-- contexts are equal where the records that they are are equal
abbrev pub context_eq : Context → Context → Bool
context_eq a b = partial_eq (context_part_value a) (context_part_value b)
