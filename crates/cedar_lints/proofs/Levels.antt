-- What an expression names, level by level: one equation a kind.
use Rattle.std.proofs.Common.{◌≡◌, ◌++◌, ◌∷◌, [], Option, Vec, BTreeMap, Global, rules}
use Rattle.std.specs.declared.rc.Rc.{Rc}
use Rattle.std.specs.declared.rc.RcStr.{RcStr}
use Rattle.cedar_names.specs.declared.names.EntityType.{EntityType}
use Rattle.cedar_names.specs.declared.names.Loc.{Loc}
use Rattle.cedar_names.specs.declared.names.Name.{Name}
use Rattle.cedar_names.specs.declared.names.SlotId.{SlotId}
use Rattle.cedar_names.specs.declared.names.Var as names
use Rattle.cedar_names.specs.declared.operators.BinaryOp.{BinaryOp}
use Rattle.cedar_names.specs.declared.operators.UnaryOp.{UnaryOp}
use Rattle.cedar_names.specs.declared.pattern.Pattern.{Pattern}
use Rattle.cedar_names.specs.declared.types.FirstRest.{FirstRest}
use Rattle.cedar_names.specs.declared.types.Literal.{Literal}
use Rattle.cedar_names.specs.declared.types.Unknown as unknowns
use Rattle.cedar_expressions.specs.declared.expr.Expr.{Expr, out-Expr, the_lemmas}
use Rattle.cedar_expressions.specs.declared.expr.ExprKind.{Lit, Var, Slot, Unknown, If, And, Or, UnaryApp, BinaryApp, ExtensionFunctionApp, GetAttr, HasAttr, ExtHasAttr, Like, Is, Set, Record}
use Rattle.cedar_lints.specs.Mentions.{mentions, kind_mentions, mentions_each, mentions_at, literal_mentions, of_type}

-- what an expression names is what its kind does at its place
pub mentions_by_kind : (e : Expr) → mentions e ≡ kind_mentions (out-Expr e).expr_kind (out-Expr e).source_loc
unfolding mentions kind_mentions
mentions_by_kind e = search (rules, the_lemmas)

pub kind_mentions-Lit : (l : Literal) (place : Option Loc) → kind_mentions (Lit l) place ≡ literal_mentions l place
unfolding mentions kind_mentions
kind_mentions-Lit l place = search (rules, the_lemmas)

pub kind_mentions-Var : (v : names.Var) (place : Option Loc) → kind_mentions (Var v) place ≡ []
unfolding mentions kind_mentions
kind_mentions-Var v place = search (rules, the_lemmas)

pub kind_mentions-Slot : (s : SlotId) (place : Option Loc) → kind_mentions (Slot s) place ≡ []
unfolding mentions kind_mentions
kind_mentions-Slot s place = search (rules, the_lemmas)

pub kind_mentions-Unknown : (u : unknowns.Unknown) (place : Option Loc) → kind_mentions (Unknown u) place ≡ []
unfolding mentions kind_mentions
kind_mentions-Unknown u place = search (rules, the_lemmas)

pub kind_mentions-If : (c a b : Rc Expr Global) (place : Option Loc) → kind_mentions (If c a b) place
    ≡ mentions c.value ++ (mentions a.value ++ mentions b.value)
unfolding mentions kind_mentions
kind_mentions-If c a b place = search (rules, the_lemmas)

pub kind_mentions-And : (a b : Rc Expr Global) (place : Option Loc) → kind_mentions (And a b) place
    ≡ mentions a.value ++ mentions b.value
unfolding mentions kind_mentions
kind_mentions-And a b place = search (rules, the_lemmas)

pub kind_mentions-Or : (a b : Rc Expr Global) (place : Option Loc) → kind_mentions (Or a b) place
    ≡ mentions a.value ++ mentions b.value
unfolding mentions kind_mentions
kind_mentions-Or a b place = search (rules, the_lemmas)

pub kind_mentions-UnaryApp : (op : UnaryOp) (a : Rc Expr Global) (place : Option Loc)
    → kind_mentions (UnaryApp op a) place ≡ mentions a.value
unfolding mentions kind_mentions
kind_mentions-UnaryApp op a place = search (rules, the_lemmas)

pub kind_mentions-BinaryApp : (op : BinaryOp) (a b : Rc Expr Global) (place : Option Loc)
    → kind_mentions (BinaryApp op a b) place ≡ mentions a.value ++ mentions b.value
unfolding mentions kind_mentions
kind_mentions-BinaryApp op a b place = search (rules, the_lemmas)

pub kind_mentions-ExtensionFunctionApp : (f : Name) (es : Rc (Vec Expr Global) Global) (place : Option Loc)
    → kind_mentions (ExtensionFunctionApp f es) place ≡ mentions_each es.value.items
unfolding mentions kind_mentions
kind_mentions-ExtensionFunctionApp f es place = search (rules, the_lemmas)

pub kind_mentions-GetAttr : (e : Rc Expr Global) (a : RcStr Global) (place : Option Loc)
    → kind_mentions (GetAttr e a) place ≡ mentions e.value
unfolding mentions kind_mentions
kind_mentions-GetAttr e a place = search (rules, the_lemmas)

pub kind_mentions-HasAttr : (e : Rc Expr Global) (a : RcStr Global) (place : Option Loc)
    → kind_mentions (HasAttr e a) place ≡ mentions e.value
unfolding mentions kind_mentions
kind_mentions-HasAttr e a place = search (rules, the_lemmas)

pub kind_mentions-ExtHasAttr : (e : Rc Expr Global) (attrs : Rc (FirstRest (RcStr Global)) Global)
    (place : Option Loc) → kind_mentions (ExtHasAttr e attrs) place ≡ mentions e.value
unfolding mentions kind_mentions
kind_mentions-ExtHasAttr e attrs place = search (rules, the_lemmas)

pub kind_mentions-Like : (e : Rc Expr Global) (p : Pattern) (place : Option Loc) → kind_mentions (Like e p) place
    ≡ mentions e.value
unfolding mentions kind_mentions
kind_mentions-Like e p place = search (rules, the_lemmas)

pub kind_mentions-Is : (e : Rc Expr Global) (t : EntityType) (place : Option Loc) → kind_mentions (Is e t) place
    ≡ mentions e.value ++ record { named = of_type t; place = place } ∷ []
unfolding mentions kind_mentions
kind_mentions-Is e t place = search (rules, the_lemmas)

pub kind_mentions-Set : (es : Rc (Vec Expr Global) Global) (place : Option Loc) → kind_mentions (Set es) place
    ≡ mentions_each es.value.items
unfolding mentions kind_mentions
kind_mentions-Set es place = search (rules, the_lemmas)

pub kind_mentions-Record : (m : Rc (BTreeMap (RcStr Global) Expr) Global) (place : Option Loc)
    → kind_mentions (Record m) place ≡ mentions_at m.value.entries
unfolding mentions kind_mentions
kind_mentions-Record m place = search (rules, the_lemmas)

pub ruleset levels = (
  mentions_by_kind,
  kind_mentions-Lit,
  kind_mentions-Var,
  kind_mentions-Slot,
  kind_mentions-Unknown,
  kind_mentions-If,
  kind_mentions-And,
  kind_mentions-Or,
  kind_mentions-UnaryApp,
  kind_mentions-BinaryApp,
  kind_mentions-ExtensionFunctionApp,
  kind_mentions-GetAttr,
  kind_mentions-HasAttr,
  kind_mentions-ExtHasAttr,
  kind_mentions-Like,
  kind_mentions-Is,
  kind_mentions-Set,
  kind_mentions-Record,
)
