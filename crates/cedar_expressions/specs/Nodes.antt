-- An expression's node: its kind with its parts whole, their locations included, whether they are shared or not.
use Rattle.std.specs.Prelude.{List, [], ◌∷◌, map, Option, Some, None}
use Rattle.std.specs.Option.{option_and_then}
use Rattle.std.specs.declared.cmp.Ordering.{Ordering}
use Rattle.std.specs.Ordering.{nat_cmp}
use Rattle.std.specs.Cmp.Lexicographic.{slice_cmp}
use Rattle.std.specs.BTreeMap.{insert_entry}
use Rattle.std.specs.Rc.{rc_str_bytes}
use Rattle.std.specs.declared.alloc.Global.{Global}
use Rattle.std.specs.declared.rc.RcStr.{RcStr}
use Rattle.cedar_expressions.specs.declared.expr.Expr.{Expr}
use Rattle.cedar_expressions.specs.declared.expr.ExprKind.{ExprKind, ExprKind-F, out-ExprKind}
use Rattle.cedar_names.specs.declared.names.Name.{Name}
use Rattle.cedar_names.specs.declared.names.EntityType.{EntityType}
use Rattle.cedar_names.specs.declared.names.EntityUID.{EntityUID}
use Rattle.cedar_names.specs.declared.names.SlotId.{SlotId}
use Rattle.cedar_names.specs.declared.names.Var as names
use Rattle.cedar_names.specs.declared.operators.UnaryOp.{UnaryOp}
use Rattle.cedar_names.specs.declared.operators.BinaryOp.{BinaryOp}
use Rattle.cedar_names.specs.declared.pattern.Pattern.{Pattern}
use Rattle.cedar_names.specs.declared.types.Literal.{Literal}
use Rattle.cedar_names.specs.declared.types.Literal.TheVariants as literals
use Rattle.cedar_names.specs.declared.types.FirstRest.{FirstRest}
use Rattle.cedar_names.specs.declared.types.Unknown as unknowns
use Rattle.cedar_expressions.specs.View.{expr_kind_of}

pub data Node : Type 0 where
  Lit : Literal → Node
  Var : names.Var → Node
  Slot : SlotId → Node
  Unknown : unknowns.Unknown → Node
  If : Expr → Expr → Expr → Node
  And : Expr → Expr → Node
  Or : Expr → Expr → Node
  UnaryApp : UnaryOp → Expr → Node
  BinaryApp : BinaryOp → Expr → Expr → Node
  ExtensionFunctionApp : Name → List Expr → Node
  GetAttr : Expr → RcStr Global → Node
  HasAttr : Expr → RcStr Global → Node
  ExtHasAttr : Expr → FirstRest (RcStr Global) → Node
  Like : Expr → Pattern → Node
  Is : Expr → EntityType → Node
  Set : List Expr → Node
  Record : List (RcStr Global × Expr) → Node

-- one level of an expression
abbrev pub node_step : ExprKind-F ExprKind Expr → Node
node_step (ExprKind-F.Lit l) = Lit l
node_step (ExprKind-F.Var v) = Var v
node_step (ExprKind-F.Slot s) = Slot s
node_step (ExprKind-F.Unknown u) = Unknown u
node_step (ExprKind-F.If c a b) = If c.value a.value b.value
node_step (ExprKind-F.And a b) = And a.value b.value
node_step (ExprKind-F.Or a b) = Or a.value b.value
node_step (ExprKind-F.UnaryApp op a) = UnaryApp op a.value
node_step (ExprKind-F.BinaryApp op a b) = BinaryApp op a.value b.value
node_step (ExprKind-F.ExtensionFunctionApp f args) = ExtensionFunctionApp f args.value.items
node_step (ExprKind-F.GetAttr e a) = GetAttr e.value a
node_step (ExprKind-F.HasAttr e a) = HasAttr e.value a
node_step (ExprKind-F.ExtHasAttr e attrs) = ExtHasAttr e.value attrs.value
node_step (ExprKind-F.Like e p) = Like e.value p
node_step (ExprKind-F.Is e t) = Is e.value t
node_step (ExprKind-F.Set parts) = Set parts.value.items
node_step (ExprKind-F.Record m) = Record m.value.entries

-- the node of a kind with its parts
unfoldable pub kind_node : ExprKind → Node
kind_node k = node_step (out-ExprKind k)

-- the node of an expression
abbrev pub node_of : Expr → Node
node_of e = kind_node (expr_kind_of e)

-- ---- parts

-- the parts of a node, in order
abbrev pub parts_below : Node → List Expr
parts_below (Lit l) = []
parts_below (Var v) = []
parts_below (Slot s) = []
parts_below (Unknown u) = []
parts_below (If c a b) = c ∷ a ∷ b ∷ []
parts_below (And a b) = a ∷ b ∷ []
parts_below (Or a b) = a ∷ b ∷ []
parts_below (UnaryApp op a) = a ∷ []
parts_below (BinaryApp op a b) = a ∷ b ∷ []
parts_below (ExtensionFunctionApp f args) = args
parts_below (GetAttr e a) = e ∷ []
parts_below (HasAttr e a) = e ∷ []
parts_below (ExtHasAttr e attrs) = e ∷ []
parts_below (Like e p) = e ∷ []
parts_below (Is e t) = e ∷ []
parts_below (Set parts) = parts
parts_below (Record fields) = map {B = Expr} (λ f. f.1) fields

-- the parts of a kind
abbrev pub kind_parts : ExprKind → List Expr
kind_parts k = parts_below (kind_node k)

-- the parts of an expression, whole: their locations and what is in them included
abbrev pub parts_of : Expr → List Expr
parts_of e = kind_parts (expr_kind_of e)

-- ---- what a literal names

abbrev pub literal_at : Node → Option Literal
literal_at (Lit l) = Some l
literal_at n = None

abbrev pub uid_of_literal : Literal → Option EntityUID
uid_of_literal (literals.Bool b) = None
uid_of_literal (literals.Long n) = None
uid_of_literal (literals.String s) = None
uid_of_literal (literals.EntityUID u) = Some u.value

-- the entity that a literal names, whole: its location included
abbrev pub uid_at : Node → Option EntityUID
uid_at n = option_and_then uid_of_literal (literal_at n)

-- ---- the entries of a record

-- keys by their bytes
abbrev pub key_order : RcStr Global → RcStr Global → Ordering
key_order a b = slice_cmp nat_cmp (rc_str_bytes a) (rc_str_bytes b)

-- the entries with these too, one after the other
abbrev pub with_entries : List (RcStr Global × Expr) → List (RcStr Global × Expr) → List (RcStr Global × Expr)
with_entries es [] = es
with_entries es (p ∷ ps) = with_entries (insert_entry key_order es p.0 p.1) ps

-- the entries in byte order of their keys
abbrev pub entries_in_order : List (RcStr Global × Expr) → List (RcStr Global × Expr)
entries_in_order ps = with_entries [] ps
