-- An expression is no higher than the tree that it is.
use Rattle.std.proofs.Common.{◌≡◌, ◌∙◌, ℕ, suc, ◌+◌, ◌≤◌, max, List, [], ◌∷◌, ◌++◌, Option, None, Some, sym}
use Rattle.std.proofs.Common.{ap, refl, subst, option_map, arith}
use Rattle.std.proofs.lemmas.Option.{same_Some}
use Rattle.std.specs.Cmp.Lexicographic.{slice_cmp}
use Rattle.std.specs.Ordering.{nat_cmp, match_ordering}
use Rattle.std.specs.Rc.{rc_str_bytes}
use Rattle.std.specs.declared.alloc.Global.{Global}
use Rattle.std.specs.declared.cmp.Ordering.{Ordering}
use Rattle.std.specs.declared.cmp.Ordering.TheVariants.{Less, Equal, Greater}
use Rattle.std.specs.declared.rc.RcStr.{RcStr}
use Rattle.cedar_model.specs.Agreement.{height, greatest_height, greatest_height_at}
use Rattle.cedar_model.specs.Terms as model
use Rattle.cedar_model.specs.Terms.{Text, Term, Fields, no_fields, one_field, fields_of}
use Rattle.cedar_names.specs.Leaves.{slot_view, variable_view, unary_view, binary_view, pattern_view, type_view}
use Rattle.cedar_names.specs.Leaves.{literal_view}
use Rattle.cedar_names.specs.Names.{type_text}
use Rattle.cedar_names.specs.declared.names.SlotId.{SlotId}
use Rattle.cedar_names.specs.declared.names.Var.{Var}
use Rattle.cedar_names.specs.declared.operators.BinaryOp.{BinaryOp}
use Rattle.cedar_names.specs.declared.operators.BinaryOp.TheVariants as binary_op
use Rattle.cedar_expressions.specs.Nodes.{Node, kind_node, node_of, entries_in_order}
use Rattle.cedar_expressions.specs.Nodes as node
use Rattle.cedar_expressions.specs.Records.{put_field, put_fields, pairs_view}
use Rattle.cedar_expressions.specs.View.{view, kind_view, terms_view, fields_view, expr_kind_of, call_of}
use Rattle.cedar_expressions.specs.View.{extended_has_of}
use Rattle.cedar_expressions.specs.declared.expr.Expr.{Expr}
use Rattle.cedar_expressions.specs.declared.expr.ExprKind.{ExprKind, ExprKind-F, out-ExprKind, roll-ExprKind}
use Rattle.cedar_expressions.specs.declared.expr.ExprKind.{roll-out-ExprKind}
use Rattle.cedar_expressions.specs.declared.expr.ExprKind.TheViews as rolls
use Rattle.cedar_expressions.proofs.Levels as views
use Rattle.cedar_expressions.proofs.NodeLevels as nodes
use Rattle.cedar_expressions.proofs.Records.{fields_in_order-entries}
use Rattle.cedar_text_syntax.specs.Trees as trees
use Rattle.cedar_text_syntax.specs.Trees.{Tree, Trees, tallest, levels_of}
use Rattle.cedar_text_syntax.specs.declared.steps.Binary.{Binary}
use Rattle.cedar_text_syntax.specs.declared.steps.Binary.TheVariants as binaries
use Rattle.cedar_text_syntax.specs.declared.steps.Bracketed.{Bracketed}
use Rattle.cedar_text_syntax.specs.declared.steps.Bracketed.TheVariants.{Set, Record, Call, Method}
use Rattle.cedar_text_syntax.specs.declared.steps.Leaf.{Leaf}
use Rattle.cedar_text_syntax.specs.declared.steps.Leaf.TheVariants as leaves
use Rattle.cedar_text_syntax.specs.declared.steps.Sign.TheVariants.{Not, Neg}
use Rattle.cedar_text_syntax.specs.declared.steps.Unary.{Unary}
use Rattle.cedar_text_syntax.specs.declared.steps.Unary.TheVariants as unaries
use Rattle.cedar_functions.specs.Functions.{Knowledge}
use Rattle.cedar_text_parser.specs.Building.{IsText, text_node, IsEntity, entity_node, IsLeaf, IsAttribute, attribute_node}
use Rattle.cedar_text_parser.specs.Building.{IsHas, has_one, has_more, IsLike, like_node, IsOfType, type_node, IsUnary}
use Rattle.cedar_text_parser.specs.Building.{IsOfTypeIn, type_in_node, IsBinary, IsCall, call_node, IsOperation, operation}
use Rattle.cedar_text_parser.specs.Building.{IsEmptiness, emptiness, IsMethod, IsBracketed, Is, is_leaf, is_unary, is_binary}
use Rattle.cedar_text_parser.specs.Building.{is_conditional, is_bracketed, is_record, AreParts, no_part, part_behind}
use Rattle.cedar_text_parser.specs.Building.{AreFields, no_field, field_behind}
use Rattle.cedar_text_parser.specs.Heights.{IsNoHigher}
use Rattle.cedar_text_parser.specs.Reading.{IsRead, is_read}
use Rattle.cedar_text_parser.specs.Sources.{Tokenized}
use Rattle.cedar_text_parser.specs.Wording.{method_of, word_at}
use Rattle.cedar_text_parser.specs.declared.words.MethodKind.{MethodKind}
use Rattle.cedar_text_parser.specs.declared.words.MethodKind.TheVariants as methods

-- ---- an expression's view is that of its node

abbrev pub node_view : Node → Term
node_view (node.Lit l) = model.literal (literal_view l)
node_view (node.Var v) = model.variable (variable_view v)
node_view (node.Slot s) = model.slot (slot_view s)
node_view (node.Unknown u) = model.unknown (rc_str_bytes u.name) (option_map type_view u.type_annotation)
node_view (node.If c a b) = model.if_then_else (view c) (view a) (view b)
node_view (node.And a b) = model.both (view a) (view b)
node_view (node.Or a b) = model.either (view a) (view b)
node_view (node.UnaryApp op a) = model.unary (unary_view op) (view a)
node_view (node.BinaryApp op a b) = model.binary (binary_view op) (view a) (view b)
node_view (node.ExtensionFunctionApp f args) = call_of f args
node_view (node.GetAttr e a) = model.get_attribute (view e) (rc_str_bytes a)
node_view (node.HasAttr e a) = model.has_attribute (view e) (rc_str_bytes a)
node_view (node.ExtHasAttr e attrs) = extended_has_of (view e) attrs
node_view (node.Like e p) = model.like (view e) (pattern_view p)
node_view (node.Is e t) = model.is_of_type (view e) (type_text t)
node_view (node.Set parts) = model.set_of (terms_view parts)
node_view (node.Record fields) = model.record_of (fields_view fields)

as_node : {k l : ExprKind} {n : Node} → k ≡ l → kind_node l ≡ n → kind_view l ≡ node_view n →
    kind_view k ≡ node_view (kind_node k)
as_node rolled noded viewed = ap kind_view rolled ∙ viewed ∙ sym (ap node_view (ap kind_node rolled ∙ noded))

level_view : (f : ExprKind-F ExprKind Expr) → kind_view (roll-ExprKind f) ≡ node_view (kind_node (roll-ExprKind f))
level_view (ExprKind-F.Lit l) = as_node (rolls.rolls-Lit l) (nodes.kind_node-Lit l) (views.kind_view-Lit l)
level_view (ExprKind-F.Var v) = as_node (rolls.rolls-Var v) (nodes.kind_node-Var v) (views.kind_view-Var v)
level_view (ExprKind-F.Slot s) = as_node (rolls.rolls-Slot s) (nodes.kind_node-Slot s) (views.kind_view-Slot s)
level_view (ExprKind-F.Unknown u) =
    as_node (rolls.rolls-Unknown u) (nodes.kind_node-Unknown u) (views.kind_view-Unknown u)
level_view (ExprKind-F.If c a b) =
    as_node (rolls.rolls-If c a b) (nodes.kind_node-If c a b) (views.kind_view-If c a b)
level_view (ExprKind-F.And a b) = as_node (rolls.rolls-And a b) (nodes.kind_node-And a b) (views.kind_view-And a b)
level_view (ExprKind-F.Or a b) = as_node (rolls.rolls-Or a b) (nodes.kind_node-Or a b) (views.kind_view-Or a b)
level_view (ExprKind-F.UnaryApp op a) =
    as_node (rolls.rolls-UnaryApp op a) (nodes.kind_node-UnaryApp op a) (views.kind_view-UnaryApp op a)
level_view (ExprKind-F.BinaryApp op a b) =
    as_node (rolls.rolls-BinaryApp op a b) (nodes.kind_node-BinaryApp op a b) (views.kind_view-BinaryApp op a b)
level_view (ExprKind-F.ExtensionFunctionApp f es) = as_node (rolls.rolls-ExtensionFunctionApp f es)
    (nodes.kind_node-ExtensionFunctionApp f es) (views.kind_view-ExtensionFunctionApp f es)
level_view (ExprKind-F.GetAttr e a) =
    as_node (rolls.rolls-GetAttr e a) (nodes.kind_node-GetAttr e a) (views.kind_view-GetAttr e a)
level_view (ExprKind-F.HasAttr e a) =
    as_node (rolls.rolls-HasAttr e a) (nodes.kind_node-HasAttr e a) (views.kind_view-HasAttr e a)
level_view (ExprKind-F.ExtHasAttr e ks) =
    as_node (rolls.rolls-ExtHasAttr e ks) (nodes.kind_node-ExtHasAttr e ks) (views.kind_view-ExtHasAttr e ks)
level_view (ExprKind-F.Like e p) =
    as_node (rolls.rolls-Like e p) (nodes.kind_node-Like e p) (views.kind_view-Like e p)
level_view (ExprKind-F.Is e t) = as_node (rolls.rolls-Is e t) (nodes.kind_node-Is e t) (views.kind_view-Is e t)
level_view (ExprKind-F.Set es) = as_node (rolls.rolls-Set es) (nodes.kind_node-Set es) (views.kind_view-Set es)
level_view (ExprKind-F.Record m) =
    as_node (rolls.rolls-Record m) (nodes.kind_node-Record m) (views.kind_view-Record m)

pub view_by_node : (x : Expr) → view x ≡ node_view (node_of x)
view_by_node x = views.view_by_kind x ∙ subst (λ k. kind_view k ≡ node_view (kind_node k))
    (roll-out-ExprKind (expr_kind_of x)) (level_view (out-ExprKind (expr_kind_of x)))

-- how high an expression of this node is
abbrev node_height : Node → ℕ
node_height n = height (node_view n)

height_by_node : (x : Expr) (n : Node) → node_of x ≡ n → height (view x) ≡ node_height n
height_by_node x n is = ap height (view_by_node x) ∙ ap node_height is

-- ---- leaves, and nodes of one and of two parts

variable_height : (o : Option Var) (n : Node) → option_map node.Var o ≡ Some n → node_height n ≡ 1
variable_height None n is = absurd (cc)
variable_height (Some v) n is = ap node_height (sym (same_Some (node.Var v) n is))

slot_height : (o : Option SlotId) (n : Node) → option_map node.Slot o ≡ Some n → node_height n ≡ 1
slot_height None n is = absurd (cc)
slot_height (Some s) n is = ap node_height (sym (same_Some (node.Slot s) n is))

text_height : {source : Tokenized} {i : ℕ} (n : Node) → IsText source i n → node_height n ≡ 1
text_height _ (text_node at) = refl

entity_height : {source : Tokenized} {i k s e : ℕ} (n : Node) → IsEntity source i k s e n →
    node_height n ≡ 1
entity_height _ (entity_node at) = refl

leaf_height : (source : Tokenized) (s e : ℕ) (l : Leaf) (n : Node) → IsLeaf source l s e n →
    node_height n ≡ 1
leaf_height source s e (leaves.Bool b) n is = ap node_height is
leaf_height source s e (leaves.Long i) n is = ap node_height is
leaf_height source s e (leaves.NegativeLong i) n is = ap node_height is
leaf_height source s e (leaves.Text i) n is = text_height n is
leaf_height source s e (leaves.Variable i) n is = variable_height _ n is
leaf_height source s e (leaves.Entity i k) n is = entity_height n is
leaf_height source s e (leaves.Slot i) n is = slot_height _ n is

attribute_height : {source : Tokenized} {i : ℕ} {y : Expr} (n : Node) → IsAttribute source i y n →
    node_height n ≡ suc (height (view y))
attribute_height _ (attribute_node at) = refl

has_height : {source : Tokenized} {i k : ℕ} {y : Expr} (n : Node) → IsHas source i k y n →
    node_height n ≡ suc (height (view y))
has_height _ (has_one at) = refl
has_height _ (has_more at more) = refl

like_height : {source : Tokenized} {i : ℕ} {y : Expr} (n : Node) → IsLike source i y n →
    node_height n ≡ suc (height (view y))
like_height _ (like_node at) = refl

type_height : {source : Tokenized} {i k : ℕ} {y : Expr} (n : Node) → IsOfType source i k y n →
    node_height n ≡ suc (height (view y))
type_height _ (type_node at) = refl

unary_height : (source : Tokenized) (y : Expr) (u : Unary) (n : Node) → IsUnary source u y n →
    node_height n ≡ suc (height (view y))
unary_height source y (unaries.Sign Not) n is = ap node_height is
unary_height source y (unaries.Sign Neg) n is = ap node_height is
unary_height source y (unaries.Attribute i) n is = attribute_height n is
unary_height source y (unaries.Has i k) n is = has_height n is
unary_height source y (unaries.Like i) n is = like_height n is
unary_height source y (unaries.Is i k) n is = type_height n is

-- `y is T && y in z` is two levels above the higher of y and z
type_in_height : {source : Tokenized} {i k : ℕ} {y z : Expr} {s e : ℕ} (n : Node) →
    IsOfTypeIn source i k y z s e n → node_height n ≤ max (height (view y)) (height (view z)) + 2
type_in_height {z = z} _ (type_in_node {p = p} {q = q} {x = x} of_type at_p copy relation at_q) =
    let of_p = height_by_node p (node_of p) refl ∙ type_height (node_of p) of_type in
    let of_q = height_by_node q (node.BinaryApp binary_op.In x z) relation in
    let of_x = ap height copy.same_view in
    omega arith

binary_height : (source : Tokenized) (y z : Expr) (s e : ℕ) (b : Binary) (n : Node) →
    IsBinary source b y z s e n → node_height n ≤ max (height (view y)) (height (view z)) + levels_of b
binary_height source y z s e binaries.Or n is = let h = ap node_height is in omega arith
binary_height source y z s e binaries.And n is = let h = ap node_height is in omega arith
binary_height source y z s e binaries.Equal n is = let h = ap node_height is in omega arith
binary_height source y z s e binaries.Less n is = let h = ap node_height is in omega arith
binary_height source y z s e binaries.LessEqual n is = let h = ap node_height is in omega arith
binary_height source y z s e binaries.In n is = let h = ap node_height is in omega arith
binary_height source y z s e binaries.Add n is = let h = ap node_height is in omega arith
binary_height source y z s e binaries.Sub n is = let h = ap node_height is in omega arith
binary_height source y z s e binaries.Mul n is = let h = ap node_height is in omega arith
binary_height source y z s e (binaries.IsIn i k) n is = type_in_height n is

-- ---- parts in brackets

call_height : {source : Tokenized} {i k : ℕ} {ys : List Expr} (n : Node) → IsCall source i k ys n →
    node_height n ≡ suc (greatest_height (terms_view ys))
call_height _ (call_node at) = refl

operation_height : {op : BinaryOp} (ys : List Expr) (n : Node) → IsOperation op ys n →
    node_height n ≤ suc (greatest_height (terms_view ys))
operation_height _ _ operation = omega arith

emptiness_height : (ys : List Expr) (n : Node) → IsEmptiness ys n →
    node_height n ≤ suc (greatest_height (terms_view ys))
emptiness_height _ _ emptiness = omega arith

method_height : (source : Tokenized) (i : ℕ) (m : MethodKind) (ys : List Expr) (n : Node) →
    IsMethod source i m ys n → node_height n ≤ suc (greatest_height (terms_view ys))
method_height source i (methods.Operator op) ys n is = operation_height ys n is
method_height source i methods.IsEmpty ys n is = emptiness_height ys n is
method_height source i methods.Function ys n is = let h = call_height n is in omega arith

bracketed_height : (source : Tokenized) (k : Bracketed) (ys : List Expr) (n : Node) →
    IsBracketed source k ys n → node_height n ≤ suc (greatest_height (terms_view ys))
bracketed_height source Set ys n is = let h = ap node_height is in omega arith
bracketed_height source Record ys n is = absurd is
bracketed_height source (Call i k) ys n is = let h = call_height n is in omega arith
bracketed_height source (Method i) ys n is = method_height source i (method_of (word_at source i)) ys n is

-- a part more, behind the others
greatest_behind : (ys : List Expr) (y : Expr) → greatest_height (terms_view (ys ++ y ∷ []))
    ≤ max (greatest_height (terms_view ys)) (height (view y))
greatest_behind [] y = omega arith
greatest_behind (x ∷ ys) y = let h = greatest_behind ys y in omega arith

-- ---- records

-- the greatest height among pairs of a key and a term
abbrev greatest_of : List (Text × Term) → ℕ
greatest_of [] = 0
greatest_of (f ∷ fs) = max (height f.1) (greatest_of fs)

put_height : (fs : Fields) (k : Text) (t : Term) → greatest_height_at (put_field fs k t)
    ≤ max (greatest_height_at fs) (height t)
put_height no_fields k t = omega arith
put_height (one_field l u fs) k t = at_order (slice_cmp nat_cmp k l) (put_height fs k t)
  where
    at_order : (o : Ordering) → greatest_height_at (put_field fs k t) ≤ max (greatest_height_at fs) (height t) →
        greatest_height_at (match_ordering o (one_field k t (one_field l u fs)) (one_field l t fs)
        (one_field l u (put_field fs k t))) ≤ max (greatest_height_at (one_field l u fs)) (height t)
    at_order Less rest = omega arith
    at_order Equal rest = omega arith
    at_order Greater rest = omega arith

puts_height : (fs : Fields) (ps : List (Text × Term)) → greatest_height_at (put_fields fs ps)
    ≤ max (greatest_height_at fs) (greatest_of ps)
puts_height fs [] = omega arith
puts_height fs (p ∷ ps) =
    let one = put_height fs p.0 p.1 in
    let more = puts_height (put_field fs p.0 p.1) ps in
    omega arith

-- the fields of a record are no higher than the pairs that they are of
record_height : (fs : List (RcStr Global × Expr)) → node_height (node.Record (entries_in_order fs))
    ≤ suc (greatest_of (pairs_view fs))
record_height fs =
    let put = puts_height no_fields (pairs_view fs) in
    let same = ap greatest_height_at (fields_in_order-entries fs) in
    omega arith

greatest_field_behind : (fs : List (RcStr Global × Expr)) (key : RcStr Global) (y : Expr) →
    greatest_of (pairs_view (fs ++ (key, y) ∷ [])) ≤ max (greatest_of (pairs_view fs)) (height (view y))
greatest_field_behind [] key y = omega arith
greatest_field_behind (f ∷ fs) key y = let h = greatest_field_behind fs key y in omega arith

-- ---- trees

mutual
  pub low : {source : Tokenized} (x : Expr) (p : Tree) → Is source x p →
      height (view x) ≤ trees.height p
  low {source} x _ (is_leaf {l = l} {s = s} {e = e} leaf at) =
      let h = height_by_node x (node_of x) refl ∙ leaf_height source s e l (node_of x) leaf in omega arith
  low {source} x _ (is_unary {y = y} {u = u} {p = p} part is at) =
      let h = height_by_node x (node_of x) refl ∙ unary_height source y u (node_of x) is in
      let of_y = low y p part in
      omega arith
  low {source} x _ (is_binary {y = y} {z = z} {b = b} {p = p} {q = q} {s = s} {e = e} left right is at) =
      let h = height_by_node x (node_of x) refl in
      let n = binary_height source y z s e b (node_of x) is in
      let of_y = low y p left in
      let of_z = low z q right in
      omega arith
  low x _ (is_conditional {c = c} {y = y} {z = z} {p = p} {q = q} {r = r} test first second is at) =
      let h = height_by_node x (node.If c y z) is in
      let of_c = low c p test in
      let of_y = low y q first in
      let of_z = low z r second in
      omega arith
  low {source} x _ (is_bracketed {ys = ys} {k = k} {ps = ps} parts is at) =
      let h = height_by_node x (node_of x) refl in
      let n = bracketed_height source k ys (node_of x) is in
      let of_ys = are_low ys ps parts in
      omega arith
  low x _ (is_record {fs = fs} {ps = ps} fields distinct is at) =
      let h = height_by_node x (node.Record (entries_in_order fs)) is in
      let n = record_height fs in
      let of_fs = fields_low fs ps fields in
      omega arith

  are_low : {source : Tokenized} (ys : List Expr) (ps : Trees) → AreParts source ys ps →
      greatest_height (terms_view ys) ≤ tallest ps
  are_low _ _ no_part = omega arith
  are_low _ _ (part_behind {ys = ys} {ps = ps} {y = y} {p = p} parts part) =
      let h = greatest_behind ys y in
      let of_ys = are_low ys ps parts in
      let of_y = low y p part in
      omega arith

  fields_low : {source : Tokenized} (fs : List (RcStr Global × Expr)) (ps : Trees) →
      AreFields source fs ps → greatest_of (pairs_view fs) ≤ tallest ps
  fields_low _ _ no_field = omega arith
  fields_low _ _ (field_behind {fs = fs} {ps = ps} {y = y} {p = p} key fields named part) =
      let h = greatest_field_behind fs key y in
      let of_fs = fields_low fs ps fields in
      let of_y = low y p part in
      omega arith

-- what is read within so many levels is no higher
pub read_low : {k : Knowledge} {text : List ℕ} {limit : ℕ} (x : Expr) → IsRead k text limit x → IsNoHigher limit x
read_low x (is_read {p = p} cut derives within inside is known) = let h = low x p is in omega arith
