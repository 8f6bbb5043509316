-- The node of a kind: one equation a kind.
use Rattle.std.proofs.Common.{◌≡◌, Vec, BTreeMap, Global, rules}
use Rattle.std.specs.declared.rc.Rc.{Rc}
use Rattle.std.specs.declared.rc.RcStr.{RcStr}
use Rattle.cedar_expressions.specs.declared.expr.Expr.{Expr, the_lemmas}
use Rattle.cedar_expressions.specs.declared.expr.ExprKind.{Lit, Var, Slot, Unknown, If, And, Or, UnaryApp, BinaryApp, ExtensionFunctionApp, GetAttr, HasAttr, ExtHasAttr, Like, Is, Set, Record}
use Rattle.cedar_names.specs.declared.names.Name.{Name}
use Rattle.cedar_names.specs.declared.names.EntityType.{EntityType}
use Rattle.cedar_names.specs.declared.names.SlotId.{SlotId}
use Rattle.cedar_names.specs.declared.names.Var as names
use Rattle.cedar_names.specs.declared.operators.UnaryOp.{UnaryOp}
use Rattle.cedar_names.specs.declared.operators.BinaryOp.{BinaryOp}
use Rattle.cedar_names.specs.declared.pattern.Pattern.{Pattern}
use Rattle.cedar_names.specs.declared.types.Literal.{Literal}
use Rattle.cedar_names.specs.declared.types.FirstRest.{FirstRest}
use Rattle.cedar_names.specs.declared.types.Unknown as unknowns
use Rattle.cedar_expressions.specs.Nodes as node
use Rattle.cedar_expressions.specs.Nodes.{kind_node}

pub kind_node-Lit : (l : Literal) → kind_node (Lit l) ≡ node.Lit l
unfolding kind_node
kind_node-Lit l = search (rules, the_lemmas)

pub kind_node-Var : (v : names.Var) → kind_node (Var v) ≡ node.Var v
unfolding kind_node
kind_node-Var v = search (rules, the_lemmas)

pub kind_node-Slot : (s : SlotId) → kind_node (Slot s) ≡ node.Slot s
unfolding kind_node
kind_node-Slot s = search (rules, the_lemmas)

pub kind_node-Unknown : (u : unknowns.Unknown) → kind_node (Unknown u) ≡ node.Unknown u
unfolding kind_node
kind_node-Unknown u = search (rules, the_lemmas)

pub kind_node-If : (c a b : Rc Expr Global) → kind_node (If c a b) ≡ node.If c.value a.value b.value
unfolding kind_node
kind_node-If c a b = search (rules, the_lemmas)

pub kind_node-And : (a b : Rc Expr Global) → kind_node (And a b) ≡ node.And a.value b.value
unfolding kind_node
kind_node-And a b = search (rules, the_lemmas)

pub kind_node-Or : (a b : Rc Expr Global) → kind_node (Or a b) ≡ node.Or a.value b.value
unfolding kind_node
kind_node-Or a b = search (rules, the_lemmas)

pub kind_node-UnaryApp : (op : UnaryOp) (a : Rc Expr Global) → kind_node (UnaryApp op a) ≡ node.UnaryApp op a.value
unfolding kind_node
kind_node-UnaryApp op a = search (rules, the_lemmas)

pub kind_node-BinaryApp : (op : BinaryOp) (a b : Rc Expr Global) → kind_node (BinaryApp op a b) ≡ node.BinaryApp op a.value b.value
unfolding kind_node
kind_node-BinaryApp op a b = search (rules, the_lemmas)

pub kind_node-ExtensionFunctionApp : (f : Name) (es : Rc (Vec Expr Global) Global) → kind_node (ExtensionFunctionApp f es) ≡ node.ExtensionFunctionApp f es.value.items
unfolding kind_node
kind_node-ExtensionFunctionApp f es = search (rules, the_lemmas)

pub kind_node-GetAttr : (e : Rc Expr Global) (a : RcStr Global) → kind_node (GetAttr e a) ≡ node.GetAttr e.value a
unfolding kind_node
kind_node-GetAttr e a = search (rules, the_lemmas)

pub kind_node-HasAttr : (e : Rc Expr Global) (a : RcStr Global) → kind_node (HasAttr e a) ≡ node.HasAttr e.value a
unfolding kind_node
kind_node-HasAttr e a = search (rules, the_lemmas)

pub kind_node-ExtHasAttr : (e : Rc Expr Global) (attrs : Rc (FirstRest (RcStr Global)) Global) → kind_node (ExtHasAttr e attrs) ≡ node.ExtHasAttr e.value attrs.value
unfolding kind_node
kind_node-ExtHasAttr e attrs = search (rules, the_lemmas)

pub kind_node-Like : (e : Rc Expr Global) (p : Pattern) → kind_node (Like e p) ≡ node.Like e.value p
unfolding kind_node
kind_node-Like e p = search (rules, the_lemmas)

pub kind_node-Is : (e : Rc Expr Global) (t : EntityType) → kind_node (Is e t) ≡ node.Is e.value t
unfolding kind_node
kind_node-Is e t = search (rules, the_lemmas)

pub kind_node-Set : (es : Rc (Vec Expr Global) Global) → kind_node (Set es) ≡ node.Set es.value.items
unfolding kind_node
kind_node-Set es = search (rules, the_lemmas)

pub kind_node-Record : (m : Rc (BTreeMap (RcStr Global) Expr) Global) → kind_node (Record m) ≡ node.Record m.value.entries
unfolding kind_node
kind_node-Record m = search (rules, the_lemmas)

pub ruleset nodes = (kind_node-Lit, kind_node-Var, kind_node-Slot, kind_node-Unknown, kind_node-If, kind_node-And, kind_node-Or, kind_node-UnaryApp, kind_node-BinaryApp, kind_node-ExtensionFunctionApp, kind_node-GetAttr, kind_node-HasAttr, kind_node-ExtHasAttr, kind_node-Like, kind_node-Is, kind_node-Set, kind_node-Record)
