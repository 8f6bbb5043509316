-- Where each call in a tree is of a known function, so is each call in the expression that the tree is.
use Rattle.std.proofs.Common.{◌≡◌, ◌∙◌, ℕ, suc, List, [], ◌∷◌, ◌++◌, Option, None, Some, sym, ap, refl, subst}
use Rattle.std.proofs.Common.{option_map, ◌-◌}
use Rattle.std.specs.Prelude.{⊤}
use Rattle.std.proofs.lemmas.Option.{same_Some}
use Rattle.std.specs.Cmp.Lexicographic.{slice_cmp}
use Rattle.std.specs.Ordering.{nat_cmp, match_ordering}
use Rattle.std.specs.declared.alloc.Global.{Global}
use Rattle.std.specs.declared.cmp.Ordering.{Ordering}
use Rattle.std.specs.declared.cmp.Ordering.TheVariants.{Less, Equal, Greater}
use Rattle.std.specs.declared.rc.RcStr.{RcStr}
use Rattle.cedar_model.specs.Terms.{Text, Term, Fields, no_fields, one_field}
use Rattle.cedar_names.specs.declared.names.CallStyle.{CallStyle}
use Rattle.cedar_names.specs.declared.names.CallStyle.TheVariants.{FunctionStyle, MethodStyle}
use Rattle.cedar_names.specs.declared.names.SlotId.{SlotId}
use Rattle.cedar_names.specs.declared.names.Var.{Var}
use Rattle.cedar_names.specs.declared.operators.BinaryOp.{BinaryOp}
use Rattle.cedar_expressions.specs.Nodes.{Node, node_of, entries_in_order}
use Rattle.cedar_expressions.specs.Nodes as node
use Rattle.cedar_expressions.specs.Records.{put_field, put_fields, pairs_view}
use Rattle.cedar_expressions.specs.View.{view, terms_view}
use Rattle.cedar_expressions.specs.declared.expr.Expr.{Expr}
use Rattle.cedar_expressions.proofs.Records.{fields_in_order-entries}
use Rattle.cedar_text_syntax.specs.Trees.{Tree, Trees, count}
use Rattle.cedar_text_syntax.specs.declared.steps.Binary.{Binary}
use Rattle.cedar_text_syntax.specs.declared.steps.Binary.TheVariants as binaries
use Rattle.cedar_text_syntax.specs.declared.steps.Bracketed.{Bracketed}
use Rattle.cedar_text_syntax.specs.declared.steps.Bracketed.TheVariants.{Set, Record, Call, Method}
use Rattle.cedar_text_syntax.specs.declared.steps.Leaf.{Leaf}
use Rattle.cedar_text_syntax.specs.declared.steps.Leaf.TheVariants as leaves
use Rattle.cedar_text_syntax.specs.declared.steps.Sign.TheVariants.{Not, Neg}
use Rattle.cedar_text_syntax.specs.declared.steps.Unary.{Unary}
use Rattle.cedar_text_syntax.specs.declared.steps.Unary.TheVariants as unaries
use Rattle.cedar_functions.specs.Functions.{Knowledge, known_of, Fits, IsKnown}
use Rattle.cedar_functions.specs.declared.functions.Known.{Known}
use Rattle.cedar_functions.specs.declared.functions.Known.TheVariants as known
use Rattle.cedar_text_parser.specs.Building.{IsText, text_node, IsEntity, entity_node, IsLeaf, IsAttribute, attribute_node}
use Rattle.cedar_text_parser.specs.Building.{IsHas, has_one, has_more, IsLike, like_node, IsOfType, type_node, IsUnary}
use Rattle.cedar_text_parser.specs.Building.{IsOfTypeIn, type_in_node, IsBinary, IsCall, call_node, IsOperation, operation}
use Rattle.cedar_text_parser.specs.Building.{IsEmptiness, emptiness, IsMethod, IsBracketed, Is, is_leaf, is_unary, is_binary}
use Rattle.cedar_text_parser.specs.Building.{is_conditional, is_bracketed, is_record, AreParts, no_part, part_behind}
use Rattle.cedar_text_parser.specs.Building.{AreFields, no_field, field_behind}
use Rattle.cedar_text_parser.specs.Calls.{method_callee, IsKnownCallee, IsKnownCall, CallsAreKnown}
use Rattle.cedar_text_parser.specs.Calls.{AllCallsAreKnown}
use Rattle.cedar_text_parser.specs.Reading.{IsRead, is_read}
use Rattle.cedar_text_parser.specs.Sources.{Tokenized}
use Rattle.cedar_text_parser.specs.TermCalls.{number_of, Takes, TermCallsAreKnown, CallsOfEachAreKnown, CallsOfFieldsAreKnown}
use Rattle.cedar_text_parser.specs.Wording.{method_of, word_at, spelled}
use Rattle.cedar_text_parser.specs.declared.words.MethodKind.{MethodKind}
use Rattle.cedar_text_parser.specs.declared.words.MethodKind.TheVariants as methods
use Rattle.cedar_text_parser.proofs.Heights.{node_view, view_by_node}

-- an expression of this node calls known functions alone
abbrev NodeKnown : Knowledge → Node → Type 0
NodeKnown k n = TermCallsAreKnown k (node_view n)

abbrev ExprKnown : Knowledge → Expr → Type 0
ExprKnown k x = TermCallsAreKnown k (view x)

abbrev AllKnown : Knowledge → List Expr → Type 0
AllKnown k ys = CallsOfEachAreKnown k (terms_view ys)

-- what holds of this node holds of the one that it is
as_node : (k : Knowledge) {n m : Node} → n ≡ m → NodeKnown k m → NodeKnown k n
as_node k is h = subst (λ l. NodeKnown k l) (sym is) h

by_node : (k : Knowledge) (x : Expr) → NodeKnown k (node_of x) → ExprKnown k x
by_node k x h = subst (λ t. TermCallsAreKnown k t) (sym (view_by_node x)) h

of_node : (k : Knowledge) (x : Expr) → ExprKnown k x → NodeKnown k (node_of x)
of_node k x h = subst (λ t. TermCallsAreKnown k t) (view_by_node x) h

-- ---- leaves, and nodes of one and of two parts

variable_known : (k : Knowledge) (o : Option Var) (n : Node) → option_map node.Var o ≡ Some n → NodeKnown k n
variable_known k None n is = absurd (cc)
variable_known k (Some v) n is = as_node k (sym (same_Some (node.Var v) n is)) tt

slot_known : (k : Knowledge) (o : Option SlotId) (n : Node) → option_map node.Slot o ≡ Some n → NodeKnown k n
slot_known k None n is = absurd (cc)
slot_known k (Some s) n is = as_node k (sym (same_Some (node.Slot s) n is)) tt

text_known : (k : Knowledge) {source : Tokenized} {i : ℕ} (n : Node) → IsText source i n →
    NodeKnown k n
text_known k _ (text_node at) = tt

entity_known : (k : Knowledge) {source : Tokenized} {i j s e : ℕ} (n : Node) →
    IsEntity source i j s e n → NodeKnown k n
entity_known k _ (entity_node at) = tt

leaf_known : (k : Knowledge) (source : Tokenized) (s e : ℕ) (l : Leaf) (n : Node) →
    IsLeaf source l s e n → NodeKnown k n
leaf_known k source s e (leaves.Bool b) n is = as_node k is tt
leaf_known k source s e (leaves.Long i) n is = as_node k is tt
leaf_known k source s e (leaves.NegativeLong i) n is = as_node k is tt
leaf_known k source s e (leaves.Text i) n is = text_known k n is
leaf_known k source s e (leaves.Variable i) n is = variable_known k _ n is
leaf_known k source s e (leaves.Entity i j) n is = entity_known k n is
leaf_known k source s e (leaves.Slot i) n is = slot_known k _ n is

attribute_known : (k : Knowledge) {source : Tokenized} {i : ℕ} {y : Expr} (n : Node) →
    IsAttribute source i y n → ExprKnown k y → NodeKnown k n
attribute_known k _ (attribute_node at) h = h

has_known : (k : Knowledge) {source : Tokenized} {i j : ℕ} {y : Expr} (n : Node) →
    IsHas source i j y n → ExprKnown k y → NodeKnown k n
has_known k _ (has_one at) h = h
has_known k _ (has_more at more) h = h

like_known : (k : Knowledge) {source : Tokenized} {i : ℕ} {y : Expr} (n : Node) →
    IsLike source i y n → ExprKnown k y → NodeKnown k n
like_known k _ (like_node at) h = h

type_known : (k : Knowledge) {source : Tokenized} {i j : ℕ} {y : Expr} (n : Node) →
    IsOfType source i j y n → ExprKnown k y → NodeKnown k n
type_known k _ (type_node at) h = h

unary_known : (k : Knowledge) (source : Tokenized) (y : Expr) (u : Unary) (n : Node) →
    IsUnary source u y n → ExprKnown k y → NodeKnown k n
unary_known k source y (unaries.Sign Not) n is h = as_node k is h
unary_known k source y (unaries.Sign Neg) n is h = as_node k is h
unary_known k source y (unaries.Attribute i) n is h = attribute_known k n is h
unary_known k source y (unaries.Has i j) n is h = has_known k n is h
unary_known k source y (unaries.Like i) n is h = like_known k n is h
unary_known k source y (unaries.Is i j) n is h = type_known k n is h

-- `y is T && y in z`: the second `y` is a copy of the first
type_in_known : (k : Knowledge) {source : Tokenized} {i j : ℕ} {y z : Expr} {s e : ℕ} (n : Node) →
    IsOfTypeIn source i j y z s e n → ExprKnown k y → ExprKnown k z → NodeKnown k n
type_in_known k {z = z} _ (type_in_node {p = p} {q = q} {x = x} of_type at_p copy relation at_q) h g = (
  by_node k p (type_known k (node_of p) of_type h),
  by_node k q (as_node k relation (subst (λ t. TermCallsAreKnown k t) (sym copy.same_view) h, g)),
)

binary_known : (k : Knowledge) (source : Tokenized) (y z : Expr) (s e : ℕ) (b : Binary) (n : Node) →
    IsBinary source b y z s e n → ExprKnown k y → ExprKnown k z → NodeKnown k n
binary_known k source y z s e binaries.Or n is h g = as_node k is (h, g)
binary_known k source y z s e binaries.And n is h g = as_node k is (h, g)
binary_known k source y z s e binaries.Equal n is h g = as_node k is (h, g)
binary_known k source y z s e binaries.Less n is h g = as_node k is (h, g)
binary_known k source y z s e binaries.LessEqual n is h g = as_node k is (h, g)
binary_known k source y z s e binaries.In n is h g = as_node k is (h, g)
binary_known k source y z s e binaries.Add n is h g = as_node k is (h, g)
binary_known k source y z s e binaries.Sub n is h g = as_node k is (h, g)
binary_known k source y z s e binaries.Mul n is h g = as_node k is (h, g)
binary_known k source y z s e (binaries.IsIn i j) n is h g = type_in_known k n is h g

-- ---- parts in brackets

-- what fits in a style fits in some style
fitting_takes : (f : Known) (s : CallStyle) (n : ℕ) → Fits f s n → Takes f n
fitting_takes known.Any s n h = tt
fitting_takes (known.Function t m) s n h = h.1
fitting_takes known.Nothing s n h = h

call_known : (k : Knowledge) {source : Tokenized} {i j : ℕ} {ys : List Expr} (s : CallStyle)
    (n : Node) → IsCall source i j ys n → IsKnown k s (spelled source i (j - i)) (number_of (terms_view ys)) →
    AllKnown k ys → NodeKnown k n
call_known k {ys = ys} s _ (call_node {f = f} at) fits h = (
  subst (λ w. Takes (known_of k w) (number_of (terms_view ys))) (sym at.spelling)
      (fitting_takes (known_of k _) s (number_of (terms_view ys)) fits),
  h,
)

operation_known : (k : Knowledge) {op : BinaryOp} (ys : List Expr) (n : Node) → IsOperation op ys n →
    AllKnown k ys → NodeKnown k n
operation_known k _ _ operation h = (h.0, h.1.0)

emptiness_known : (k : Knowledge) (ys : List Expr) (n : Node) → IsEmptiness ys n → AllKnown k ys → NodeKnown k n
emptiness_known k _ _ emptiness h = h.0

method_known : (k : Knowledge) (source : Tokenized) (i : ℕ) (m : MethodKind) (ys : List Expr)
    (n : Node) → IsMethod source i m ys n → IsKnownCallee k (method_callee source i m) (number_of (terms_view ys)) →
    AllKnown k ys → NodeKnown k n
method_known k source i (methods.Operator op) ys n is fits h = operation_known k ys n is h
method_known k source i methods.IsEmpty ys n is fits h = emptiness_known k ys n is h
method_known k source i methods.Function ys n is fits h = call_known k MethodStyle n is fits h

bracketed_known : (k : Knowledge) (source : Tokenized) (b : Bracketed) (ys : List Expr) (n : Node) →
    IsBracketed source b ys n → IsKnownCall k source b (number_of (terms_view ys)) → AllKnown k ys →
    NodeKnown k n
bracketed_known k source Set ys n is fits h = as_node k is h
bracketed_known k source Record ys n is fits h = absurd is
bracketed_known k source (Call i j) ys n is fits h = call_known k FunctionStyle n is fits h
bracketed_known k source (Method i) ys n is fits h =
    method_known k source i (method_of (word_at source i)) ys n is fits h

-- a part more, behind the others
number_behind : (ys : List Expr) (y : Expr) → number_of (terms_view (ys ++ y ∷ [])) ≡ suc (number_of (terms_view ys))
number_behind [] y = refl
number_behind (x ∷ ys) y = ap suc (number_behind ys y)

known_behind : (k : Knowledge) (ys : List Expr) (y : Expr) → AllKnown k ys → ExprKnown k y → AllKnown k (ys ++ y ∷ [])
known_behind k [] y hs h = (h, tt)
known_behind k (x ∷ ys) y hs h = (hs.0, known_behind k ys y hs.1 h)

-- there are as many parts as trees
number_known : {source : Tokenized} (ys : List Expr) (ps : Trees) → AreParts source ys ps →
    number_of (terms_view ys) ≡ count ps
number_known _ _ no_part = refl
number_known _ _ (part_behind {ys = ys} {ps = ps} {y = y} parts part) =
    number_behind ys y ∙ ap suc (number_known ys ps parts)

-- ---- records

-- each term of these pairs calls known functions alone
abbrev PairsKnown : Knowledge → List (Text × Term) → Type 0
PairsKnown k [] = ⊤
PairsKnown k (f ∷ fs) = TermCallsAreKnown k f.1 × PairsKnown k fs

put_known : (k : Knowledge) (fs : Fields) (n : Text) (t : Term) → CallsOfFieldsAreKnown k fs →
    TermCallsAreKnown k t → CallsOfFieldsAreKnown k (put_field fs n t)
put_known k no_fields n t hs h = (h, tt)
put_known k (one_field l u fs) n t hs h = at_order (slice_cmp nat_cmp n l) (put_known k fs n t hs.1 h)
  where
    at_order : (o : Ordering) → CallsOfFieldsAreKnown k (put_field fs n t) →
        CallsOfFieldsAreKnown k (match_ordering o (one_field n t (one_field l u fs)) (one_field l t fs)
        (one_field l u (put_field fs n t)))
    at_order Less rest = (h, hs)
    at_order Equal rest = (h, hs.1)
    at_order Greater rest = (hs.0, rest)

puts_known : (k : Knowledge) (fs : Fields) (ps : List (Text × Term)) → CallsOfFieldsAreKnown k fs → PairsKnown k ps →
    CallsOfFieldsAreKnown k (put_fields fs ps)
puts_known k fs [] hs all = hs
puts_known k fs (p ∷ ps) hs all = puts_known k (put_field fs p.0 p.1) ps (put_known k fs p.0 p.1 hs all.0) all.1

record_known : (k : Knowledge) (fs : List (RcStr Global × Expr)) → PairsKnown k (pairs_view fs) →
    NodeKnown k (node.Record (entries_in_order fs))
record_known k fs h =
    subst (λ gs. CallsOfFieldsAreKnown k gs) (sym (fields_in_order-entries fs))
    (puts_known k no_fields (pairs_view fs) tt h)

field_known_behind : (k : Knowledge) (fs : List (RcStr Global × Expr)) (key : RcStr Global) (y : Expr) →
    PairsKnown k (pairs_view fs) → ExprKnown k y → PairsKnown k (pairs_view (fs ++ (key, y) ∷ []))
field_known_behind k [] key y hs h = (h, tt)
field_known_behind k (f ∷ fs) key y hs h = (hs.0, field_known_behind k fs key y hs.1 h)

-- ---- trees

mutual
  pub stays_known : (k : Knowledge) {source : Tokenized} (x : Expr) (p : Tree) → Is source x p →
      CallsAreKnown k source p → ExprKnown k x
  stays_known k {source} x _ (is_leaf {l = l} {s = s} {e = e} leaf at) h =
      by_node k x (leaf_known k source s e l (node_of x) leaf)
  stays_known k {source} x _ (is_unary {y = y} {u = u} {p = p} part is at) h =
      by_node k x (unary_known k source y u (node_of x) is (stays_known k y p part h))
  stays_known k {source} x _
      (is_binary {y = y} {z = z} {b = b} {p = p} {q = q} {s = s} {e = e} left right is at) h =
      by_node k x (binary_known k source y z s e b (node_of x) is (stays_known k y p left h.0)
      (stays_known k z q right h.1))
  stays_known k x _ (is_conditional {c = c} {y = y} {z = z} {p = p} {q = q} {r = r} test first second is at) h =
      by_node k x (as_node k is (stays_known k c p test h.0, stays_known k y q first h.1, stays_known k z r second h.2))
  stays_known k {source} x _ (is_bracketed {ys = ys} {k = b} {ps = ps} parts is at) h =
      let fits = subst (λ m. IsKnownCall k source b m) (sym (number_known ys ps parts)) h.0 in
      by_node k x (bracketed_known k source b ys (node_of x) is fits (are_known k ys ps parts h.1))
  stays_known k x _ (is_record {fs = fs} {ps = ps} fields distinct is at) h =
      by_node k x (as_node k is (record_known k fs (fields_known k fs ps fields h.1)))

  are_known : (k : Knowledge) {source : Tokenized} (ys : List Expr) (ps : Trees) →
      AreParts source ys ps → AllCallsAreKnown k source ps → AllKnown k ys
  are_known k _ _ no_part h = tt
  are_known k _ _ (part_behind {ys = ys} {ps = ps} {y = y} {p = p} parts part) h =
      known_behind k ys y (are_known k ys ps parts h.0) (stays_known k y p part h.1)

  fields_known : (k : Knowledge) {source : Tokenized} (fs : List (RcStr Global × Expr)) (ps : Trees) →
      AreFields source fs ps → AllCallsAreKnown k source ps → PairsKnown k (pairs_view fs)
  fields_known k _ _ no_field h = tt
  fields_known k _ _ (field_behind {fs = fs} {ps = ps} {y = y} {p = p} key fields named part) h =
      field_known_behind k fs key y (fields_known k fs ps fields h.0) (stays_known k y p part h.1)

-- what is read calls known functions alone
pub read_known : (k : Knowledge) {text : List ℕ} {limit : ℕ} (x : Expr) → IsRead k text limit x → ExprKnown k x
read_known k x (is_read {p = p} cut derives within inside is calls) = stays_known k x p is calls
