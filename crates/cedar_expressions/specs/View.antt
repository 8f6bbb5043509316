-- The term that an expression stands for.
use Rattle.std.specs.Prelude.{List, [], ◌∷◌, map, Option, option_map}
use Rattle.std.specs.Rc.{rc_str_bytes}
use Rattle.std.specs.declared.alloc.Global.{Global}
use Rattle.std.specs.declared.rc.RcStr.{RcStr}
use Rattle.cedar_model.specs.Terms.{Term, literal, variable, slot, unknown, if_then_else, both, either, unary, binary, call, get_attribute, has_attribute, extended_has, like, is_of_type, set_of, record_of, Terms, Fields, no_fields, one_field, terms_of}
use Rattle.cedar_expressions.specs.declared.expr.Expr.{Expr, Expr-F, fold-Expr, out-Expr}
use Rattle.cedar_expressions.specs.declared.expr.ExprKind.{ExprKind, ExprKind-F, fold-ExprKind}
use Rattle.cedar_names.specs.declared.names.Loc.{Loc}
use Rattle.cedar_names.specs.declared.names.Name.{Name}
use Rattle.cedar_names.specs.declared.types.FirstRest.{FirstRest}
use Rattle.cedar_names.specs.Names.{name_text, type_text}
use Rattle.cedar_names.specs.Leaves.{slot_view, variable_view, unary_view, binary_view, pattern_view, type_view, literal_view, texts_view}

-- the terms under their keys, in order
abbrev pub fields_under : List (RcStr Global × Term) → Fields
fields_under [] = no_fields
fields_under (f ∷ fs) = one_field (rc_str_bytes f.0) f.1 (fields_under fs)

-- the extended `has` of these attributes, one behind the other
abbrev pub extended_has_of : Term → FirstRest (RcStr Global) → Term
extended_has_of t attrs = extended_has t (rc_str_bytes attrs.first) (texts_view attrs.rest.items)

-- one level of a kind, with each part already seen as its term
abbrev pub kind_step : ExprKind-F Term Term → Term
kind_step (ExprKind-F.Lit l) = literal (literal_view l)
kind_step (ExprKind-F.Var v) = variable (variable_view v)
kind_step (ExprKind-F.Slot s) = slot (slot_view s)
kind_step (ExprKind-F.Unknown u) = unknown (rc_str_bytes u.name) (option_map type_view u.type_annotation)
kind_step (ExprKind-F.If c a b) = if_then_else c.value a.value b.value
kind_step (ExprKind-F.And a b) = both a.value b.value
kind_step (ExprKind-F.Or a b) = either a.value b.value
kind_step (ExprKind-F.UnaryApp op a) = unary (unary_view op) a.value
kind_step (ExprKind-F.BinaryApp op a b) = binary (binary_view op) a.value b.value
kind_step (ExprKind-F.ExtensionFunctionApp f args) = call (name_text f) (terms_of args.value.items)
kind_step (ExprKind-F.GetAttr e a) = get_attribute e.value (rc_str_bytes a)
kind_step (ExprKind-F.HasAttr e a) = has_attribute e.value (rc_str_bytes a)
kind_step (ExprKind-F.ExtHasAttr e attrs) = extended_has_of e.value attrs.value
kind_step (ExprKind-F.Like e p) = like e.value (pattern_view p)
kind_step (ExprKind-F.Is e t) = is_of_type e.value (type_text t)
kind_step (ExprKind-F.Set parts) = set_of (terms_of parts.value.items)
kind_step (ExprKind-F.Record m) = record_of (fields_under m.value.entries)

-- an expression is its kind: a location changes nothing
abbrev pub expr_step : Expr-F Term Term → Term
expr_step e = e.expr_kind

-- the term of an expression
unfoldable pub view : Expr → Term
view = fold-Expr Term Term kind_step expr_step

-- the term of a kind with its parts
unfoldable pub kind_view : ExprKind → Term
kind_view = fold-ExprKind Term Term kind_step expr_step

-- the terms of a list of expressions
abbrev pub terms_view : List Expr → Terms
terms_view es = terms_of (map view es)

-- the call of this function on these arguments
abbrev pub call_of : Name → List Expr → Term
call_of f args = call (name_text f) (terms_view args)

-- the terms of expressions under their keys
abbrev pub fields_view : List (RcStr Global × Expr) → Fields
fields_view fs = fields_under (map (λ f. (f.0, view f.1)) fs)

-- where an expression stands
abbrev pub expr_loc : Expr → Option Loc
expr_loc e = (out-Expr e).source_loc

-- its kind with its parts
abbrev pub expr_kind_of : Expr → ExprKind
expr_kind_of e = (out-Expr e).expr_kind
