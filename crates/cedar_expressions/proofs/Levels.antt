-- The view of an expression, level by level: one equation a kind.
use Rattle.std.proofs.Common.{◌≡◌, option_map, Vec, BTreeMap, Global, rules}
use Rattle.std.specs.declared.rc.Rc.{Rc}
use Rattle.std.specs.declared.rc.RcStr.{RcStr}
use Rattle.std.specs.Rc.{rc_str_bytes}
use Rattle.cedar_model.specs.Terms.{literal, variable, slot, unknown, if_then_else, both, either, unary, binary, call, get_attribute, has_attribute, extended_has, like, is_of_type, set_of, record_of}
use Rattle.cedar_expressions.specs.declared.expr.Expr.{Expr, out-Expr, the_lemmas}
use Rattle.cedar_expressions.specs.declared.expr.ExprKind.{Lit, Var, Slot, Unknown, If, And, Or, UnaryApp, BinaryApp, ExtensionFunctionApp, GetAttr, HasAttr, ExtHasAttr, Like, Is, Set, Record}
use Rattle.cedar_names.specs.declared.names.Name.{Name}
use Rattle.cedar_names.specs.declared.names.EntityType.{EntityType}
use Rattle.cedar_names.specs.declared.names.SlotId.{SlotId}
use Rattle.cedar_names.specs.declared.names.Var as names
use Rattle.cedar_names.specs.declared.operators.UnaryOp.{UnaryOp}
use Rattle.cedar_names.specs.declared.operators.BinaryOp.{BinaryOp}
use Rattle.cedar_names.specs.declared.pattern.Pattern.{Pattern}
use Rattle.cedar_names.specs.declared.types.Literal.{Literal}
use Rattle.cedar_names.specs.declared.types.FirstRest.{FirstRest}
use Rattle.cedar_names.specs.declared.types.Unknown as unknowns
use Rattle.cedar_names.specs.Names.{name_text, type_text}
use Rattle.cedar_names.specs.Leaves.{slot_view, variable_view, unary_view, binary_view, pattern_view, type_view, literal_view, texts_view}
use Rattle.cedar_expressions.specs.View.{view, kind_view, terms_view, fields_view}

-- an expression's view is its kind's
pub view_by_kind : (e : Expr) → view e ≡ kind_view (out-Expr e).expr_kind
unfolding view kind_view
view_by_kind e = search (rules, the_lemmas)

pub kind_view-Lit : (l : Literal) → kind_view (Lit l) ≡ literal (literal_view l)
unfolding view kind_view
kind_view-Lit l = search (rules, the_lemmas)

pub kind_view-Var : (v : names.Var) → kind_view (Var v) ≡ variable (variable_view v)
unfolding view kind_view
kind_view-Var v = search (rules, the_lemmas)

pub kind_view-Slot : (s : SlotId) → kind_view (Slot s) ≡ slot (slot_view s)
unfolding view kind_view
kind_view-Slot s = search (rules, the_lemmas)

pub kind_view-Unknown : (u : unknowns.Unknown) → kind_view (Unknown u) ≡ unknown (rc_str_bytes u.name) (option_map type_view u.type_annotation)
unfolding view kind_view
kind_view-Unknown u = search (rules, the_lemmas)

pub kind_view-If : (c a b : Rc Expr Global) → kind_view (If c a b) ≡ if_then_else (view c.value) (view a.value) (view b.value)
unfolding view kind_view
kind_view-If c a b = search (rules, the_lemmas)

pub kind_view-And : (a b : Rc Expr Global) → kind_view (And a b) ≡ both (view a.value) (view b.value)
unfolding view kind_view
kind_view-And a b = search (rules, the_lemmas)

pub kind_view-Or : (a b : Rc Expr Global) → kind_view (Or a b) ≡ either (view a.value) (view b.value)
unfolding view kind_view
kind_view-Or a b = search (rules, the_lemmas)

pub kind_view-UnaryApp : (op : UnaryOp) (a : Rc Expr Global) → kind_view (UnaryApp op a) ≡ unary (unary_view op) (view a.value)
unfolding view kind_view
kind_view-UnaryApp op a = search (rules, the_lemmas)

pub kind_view-BinaryApp : (op : BinaryOp) (a b : Rc Expr Global) → kind_view (BinaryApp op a b) ≡ binary (binary_view op) (view a.value) (view b.value)
unfolding view kind_view
kind_view-BinaryApp op a b = search (rules, the_lemmas)

pub kind_view-ExtensionFunctionApp : (f : Name) (es : Rc (Vec Expr Global) Global) → kind_view (ExtensionFunctionApp f es) ≡ call (name_text f) (terms_view es.value.items)
unfolding view kind_view
kind_view-ExtensionFunctionApp f es = search (rules, the_lemmas)

pub kind_view-GetAttr : (e : Rc Expr Global) (a : RcStr Global) → kind_view (GetAttr e a) ≡ get_attribute (view e.value) (rc_str_bytes a)
unfolding view kind_view
kind_view-GetAttr e a = search (rules, the_lemmas)

pub kind_view-HasAttr : (e : Rc Expr Global) (a : RcStr Global) → kind_view (HasAttr e a) ≡ has_attribute (view e.value) (rc_str_bytes a)
unfolding view kind_view
kind_view-HasAttr e a = search (rules, the_lemmas)

pub kind_view-ExtHasAttr : (e : Rc Expr Global) (attrs : Rc (FirstRest (RcStr Global)) Global) → kind_view (ExtHasAttr e attrs) ≡ extended_has (view e.value) (rc_str_bytes attrs.value.first) (texts_view attrs.value.rest.items)
unfolding view kind_view
kind_view-ExtHasAttr e attrs = search (rules, the_lemmas)

pub kind_view-Like : (e : Rc Expr Global) (p : Pattern) → kind_view (Like e p) ≡ like (view e.value) (pattern_view p)
unfolding view kind_view
kind_view-Like e p = search (rules, the_lemmas)

pub kind_view-Is : (e : Rc Expr Global) (t : EntityType) → kind_view (Is e t) ≡ is_of_type (view e.value) (type_text t)
unfolding view kind_view
kind_view-Is e t = search (rules, the_lemmas)

pub kind_view-Set : (es : Rc (Vec Expr Global) Global) → kind_view (Set es) ≡ set_of (terms_view es.value.items)
unfolding view kind_view
kind_view-Set es = search (rules, the_lemmas)

pub kind_view-Record : (m : Rc (BTreeMap (RcStr Global) Expr) Global) → kind_view (Record m) ≡ record_of (fields_view m.value.entries)
unfolding view kind_view
kind_view-Record m = search (rules, the_lemmas)

pub ruleset levels = (view_by_kind, kind_view-Lit, kind_view-Var, kind_view-Slot, kind_view-Unknown, kind_view-If, kind_view-And, kind_view-Or, kind_view-UnaryApp, kind_view-BinaryApp, kind_view-ExtensionFunctionApp, kind_view-GetAttr, kind_view-HasAttr, kind_view-ExtHasAttr, kind_view-Like, kind_view-Is, kind_view-Set, kind_view-Record)
