-- The entities, types and action groups that policies name, each with its place.
use Rattle.std.specs.Prelude.{Bool, true, false, List, [], ◌∷◌, ◌++◌, map, Option, None, Some}
use Rattle.std.specs.Borrow.{Bor}
use Rattle.std.specs.declared.alloc.Global.{Global}
use Rattle.std.specs.declared.rc.RcStr.{RcStr}
use Rattle.cedar_names.specs.declared.names.EntityType.{EntityType}
use Rattle.cedar_names.specs.declared.names.EntityUID.{EntityUID}
use Rattle.cedar_names.specs.declared.names.Loc.{Loc}
use Rattle.cedar_names.specs.declared.operators.BinaryOp.{BinaryOp}
use Rattle.cedar_names.specs.declared.operators.BinaryOp.TheVariants.{In}
use Rattle.cedar_names.specs.declared.operators.BinaryOp.TheVariants as operators
use Rattle.cedar_names.specs.declared.types.Literal.{Literal}
use Rattle.cedar_names.specs.declared.types.Literal.TheVariants as literals
use Rattle.cedar_expressions.specs.declared.expr.Expr.{Expr, Expr-F, fold-Expr}
use Rattle.cedar_expressions.specs.declared.expr.ExprKind.{ExprKind, ExprKind-F, fold-ExprKind}
use Rattle.cedar_expressions.specs.Nodes.{Node, BinaryApp, node_of, uid_at}
use Rattle.cedar_expressions.specs.View.{expr_loc}
use Rattle.cedar_layers.specs.Policies.{ConditionParts}
use Rattle.cedar_lints.specs.declared.mentions.Named as named_things
use Rattle.cedar_lints.specs.declared.mentions.Named.TheVariants as things
use Rattle.cedar_lints.specs.declared.mentions.Mention as declared

-- what is named: an entity, a type, or what an action must be in
pub data Named : Type 0 where
  entity : EntityUID → Named
  of_type : EntityType → Named
  group : EntityUID → Named

-- what is named, and where
pub record Mention : Type 0 where
  pub named : Named
  pub place : Option Loc

-- what an expression of a kind names, by where the expression stands
abbrev pub Placed : Type 0
Placed = Option Loc → List Mention

abbrev pub literal_mentions : Literal → Placed
literal_mentions (literals.Bool b) place = []
literal_mentions (literals.Long n) place = []
literal_mentions (literals.String s) place = []
literal_mentions (literals.EntityUID u) place = record { named = entity u.value; place = place } ∷ []

-- those of several parts, in order
abbrev pub of_each : List (List Mention) → List Mention
of_each [] = []
of_each (ms ∷ mss) = ms ++ of_each mss

-- the same of parts under their keys
abbrev pub of_fields : List (RcStr Global × List Mention) → List Mention
of_fields [] = []
of_fields (f ∷ fs) = f.1 ++ of_fields fs

-- one level of a kind, of whose parts each is seen as what it names
abbrev pub mentions_step : ExprKind-F Placed (List Mention) → Placed
mentions_step (ExprKind-F.Lit l) place = literal_mentions l place
mentions_step (ExprKind-F.Var v) place = []
mentions_step (ExprKind-F.Slot s) place = []
mentions_step (ExprKind-F.Unknown u) place = []
mentions_step (ExprKind-F.If c a b) place = c.value ++ (a.value ++ b.value)
mentions_step (ExprKind-F.And a b) place = a.value ++ b.value
mentions_step (ExprKind-F.Or a b) place = a.value ++ b.value
mentions_step (ExprKind-F.UnaryApp op a) place = a.value
mentions_step (ExprKind-F.BinaryApp op a b) place = a.value ++ b.value
mentions_step (ExprKind-F.ExtensionFunctionApp f args) place = of_each args.value.items
mentions_step (ExprKind-F.GetAttr e a) place = e.value
mentions_step (ExprKind-F.HasAttr e a) place = e.value
mentions_step (ExprKind-F.ExtHasAttr e attrs) place = e.value
mentions_step (ExprKind-F.Like e p) place = e.value
mentions_step (ExprKind-F.Is e t) place = e.value ++ record { named = of_type t; place = place } ∷ []
mentions_step (ExprKind-F.Set parts) place = of_each parts.value.items
mentions_step (ExprKind-F.Record m) place = of_fields m.value.entries

abbrev pub expr_step : Expr-F Placed (List Mention) → List Mention
expr_step e = e.expr_kind e.source_loc

-- what an expression names, in the order of its text
unfoldable pub mentions : Expr → List Mention
mentions = fold-Expr Placed (List Mention) mentions_step expr_step

unfoldable pub kind_mentions : ExprKind → Placed
kind_mentions = fold-ExprKind Placed (List Mention) mentions_step expr_step

abbrev pub mentions_each : List Expr → List Mention
mentions_each es = of_each (map mentions es)

abbrev pub mentions_at : List (RcStr Global × Expr) → List Mention
mentions_at fs = of_fields (map (λ f. (f.0, mentions f.1)) fs)

-- ---- scopes

abbrev pub is_in : BinaryOp → Bool
is_in In = true
is_in operators.Eq = false
is_in operators.Less = false
is_in operators.LessEq = false
is_in operators.Add = false
is_in operators.Sub = false
is_in operators.Mul = false
is_in operators.Contains = false
is_in operators.ContainsAll = false
is_in operators.ContainsAny = false
is_in operators.GetTag = false
is_in operators.HasTag = false

-- both, if that is so
abbrev pub pair_if : Bool → Expr → Expr → Option (Expr × Expr)
pair_if true a b = Some (a, b)
pair_if false a b = None

-- both sides, of `in`
abbrev pub membership_parts : Node → Option (Expr × Expr)
membership_parts (BinaryApp op a b) = pair_if (is_in op) a b
membership_parts n = None

-- what stands to the right of `action in`: an entity is a group there
abbrev pub group_or : Expr → Option EntityUID → List Mention
group_or e None = mentions e
group_or e (Some u) = record { named = group u; place = expr_loc e } ∷ []

abbrev pub group_mentions : Expr → List Mention
group_mentions e = group_or e (uid_at (node_of e))

abbrev pub membership_mentions : Expr → Option (Expr × Expr) → List Mention
membership_mentions e None = mentions e
membership_mentions e (Some p) = mentions p.0 ++ group_mentions p.1

-- what the constraint on the action names
abbrev pub action_mentions : Expr → List Mention
action_mentions e = membership_mentions e (membership_parts (node_of e))

-- what a policy names: in its scope, and then in its condition
abbrev pub policy_mentions : ConditionParts → List Mention
policy_mentions p =
    mentions p.principal ++ (action_mentions p.action ++ (mentions p.resource ++ mentions p.when))

-- ---- for private clauses

abbrev pub pair_seen : Option (Bor Expr × Bor Expr) → Option (Expr × Expr)
pair_seen None = None
pair_seen (Some p) = Some (p.0.now, p.1.now)

abbrev pub named_view : named_things.Named → Named
named_view (things.Entity u) = entity u.now
named_view (things.EntityType t) = of_type t.now
named_view (things.Group u) = group u.now

abbrev pub mention_view : declared.Mention → Mention
mention_view m = record { named = named_view m.named; place = m.place }

abbrev pub mentions_seen : List declared.Mention → List Mention
mentions_seen = map mention_view
