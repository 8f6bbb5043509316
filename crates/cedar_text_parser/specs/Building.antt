-- The expression that a tree of the grammar is. The kinds of trees stand in the order of the grammar's steps; what each
-- is stands on one line, as the node with its parts.
use Rattle.std.specs.Prelude.{◌≡◌, ℕ, ◌+◌, ◌<◌, List, [], ◌∷◌, ◌++◌, length, Some, None, option_map, map, ℤ, pos, neg_ℤ}
use Rattle.std.specs.Rc.{rc_str_bytes}
use Rattle.std.specs.Str.Parse.{digits_value}
use Rattle.std.specs.declared.alloc.Global.{Global}
use Rattle.std.specs.declared.rc.Rc.{Rc}
use Rattle.std.specs.declared.rc.RcStr.{RcStr}
use Rattle.cedar_model.specs.Terms as model
use Rattle.cedar_text_lexer.specs.Values.{inside_of, IsPatternOf}
use Rattle.cedar_text_lexer.specs.declared.tokens.Kind.TheVariants as kind
use Rattle.cedar_text_lexer.specs.declared.values.PatternPart.{PatternPart}
use Rattle.cedar_text_lexer.specs.declared.values.PatternPart.TheVariants as parts
use Rattle.cedar_names.specs.Leaves.{pattern_view}
use Rattle.cedar_names.specs.Names.{type_name_of}
use Rattle.cedar_names.specs.declared.names.EntityType.{EntityType}
use Rattle.cedar_names.specs.declared.names.EntityUID.{EntityUID}
use Rattle.cedar_names.specs.declared.names.Name.{Name}
use Rattle.cedar_names.specs.declared.operators.BinaryOp.{BinaryOp}
use Rattle.cedar_names.specs.declared.operators.BinaryOp.TheVariants as binary_op
use Rattle.cedar_names.specs.declared.operators.UnaryOp.TheVariants as unary_op
use Rattle.cedar_names.specs.declared.pattern.Pattern.{Pattern}
use Rattle.cedar_names.specs.declared.types.FirstRest.{FirstRest}
use Rattle.cedar_names.specs.declared.types.Literal.TheVariants as literal
use Rattle.cedar_expressions.specs.Nodes.{Node, node_of, parts_of, entries_in_order}
use Rattle.cedar_expressions.specs.Nodes as node
use Rattle.cedar_model.specs.Refusals.{first_repeated}
use Rattle.cedar_expressions.specs.Records.{keys_view}
use Rattle.cedar_expressions.specs.View.{view, expr_loc}
use Rattle.cedar_expressions.specs.declared.expr.Expr.{Expr}
use Rattle.cedar_text_lexer.specs.Sequence.{kind_at}
use Rattle.cedar_text_syntax.specs.Trees.{Tree, leaf, unary, binary, conditional, field, bracketed, Trees, none, also, made}
use Rattle.cedar_text_syntax.specs.declared.steps.Binary.{Binary}
use Rattle.cedar_text_syntax.specs.declared.steps.Binary.TheVariants as binaries
use Rattle.cedar_text_syntax.specs.declared.steps.Bracketed.{Bracketed}
use Rattle.cedar_text_syntax.specs.declared.steps.Bracketed.TheVariants.{Set, Record, Call, Method}
use Rattle.cedar_text_syntax.specs.declared.steps.Leaf.{Leaf}
use Rattle.cedar_text_syntax.specs.declared.steps.Leaf.TheVariants as leaves
use Rattle.cedar_text_syntax.specs.declared.steps.Sign.TheVariants.{Not, Neg}
use Rattle.cedar_text_syntax.specs.declared.steps.Unary.{Unary}
use Rattle.cedar_text_syntax.specs.declared.steps.Unary.TheVariants as unaries
use Rattle.cedar_text_syntax.specs.declared.steps.What.{What}
use Rattle.cedar_text_parser.specs.Finished.{unkeyed, keyed}
use Rattle.cedar_text_parser.specs.Sources.{Tokenized}
use Rattle.cedar_text_parser.specs.Wording.{place, word_at, variable_of, slot_of, method_of, IsTextAt, IsKeyAt, AreKeysAt}
use Rattle.cedar_text_parser.specs.Wording.{IsNameAt, IsEntityAt}
use Rattle.cedar_text_parser.specs.declared.builder.Part.{Part}
use Rattle.cedar_text_parser.specs.declared.words.MethodKind.{MethodKind}
use Rattle.cedar_text_parser.specs.declared.words.MethodKind.TheVariants as methods

-- ---- leaves

-- the number of token i
abbrev pub number_at : Tokenized → ℕ → ℤ
number_at source i = pos (digits_value 10 (word_at source i))

-- the text of token i
pub data IsText (source : Tokenized) (i : ℕ) : Node → Type 0 where
  text_node : {w : RcStr Global} → IsTextAt source i (rc_str_bytes w) →
      IsText source i (node.Lit (literal.String w))

-- the entity of tokens i up to k
pub data IsEntity (source : Tokenized) (i k s e : ℕ) : Node → Type 0 where
  entity_node : {u : Rc EntityUID Global} → IsEntityAt source i k s e u.value →
      IsEntity source i k s e (node.Lit (literal.EntityUID u))

-- what the leaf is, from byte s to byte e
abbrev pub IsLeaf : Tokenized → Leaf → ℕ → ℕ → Node → Type 0
IsLeaf source (leaves.Bool b) s e n = n ≡ node.Lit (literal.Bool b)
IsLeaf source (leaves.Long i) s e n = n ≡ node.Lit (literal.Long (number_at source i))
IsLeaf source (leaves.NegativeLong i) s e n = n ≡ node.Lit (literal.Long (neg_ℤ (number_at source i)))
IsLeaf source (leaves.Text i) s e n = IsText source i n
IsLeaf source (leaves.Variable i) s e n = option_map node.Var (variable_of (kind_at source.tokens i)) ≡ Some n
IsLeaf source (leaves.Entity i k) s e n = IsEntity source i k s e n
IsLeaf source (leaves.Slot i) s e n = option_map node.Slot (slot_of (kind_at source.tokens i)) ≡ Some n

-- ---- of one part

-- the attribute that token i names of the part
pub data IsAttribute (source : Tokenized) (i : ℕ) (y : Expr) : Node → Type 0 where
  attribute_node : {w : RcStr Global} → IsKeyAt source i (rc_str_bytes w) →
      IsAttribute source i y (node.GetAttr y w)

-- that the part has all attributes that tokens i up to k name, one behind the other
pub data IsHas (source : Tokenized) (i k : ℕ) (y : Expr) : Node → Type 0 where
  has_one : {w : RcStr Global} → AreKeysAt source i k (w ∷ []) → IsHas source i k y (node.HasAttr y w)
  has_more : {ws : FirstRest (RcStr Global)} → AreKeysAt source i k (ws.first ∷ ws.rest.items) →
      0 < length ws.rest.items → IsHas source i k y (node.ExtHasAttr y ws)

-- a part of a pattern
abbrev pub pattern_part : PatternPart → model.PatternPart
pattern_part (parts.Char c) = model.character c
pattern_part parts.Wildcard = model.wildcard

-- token i is a text in quotes, which stands for the pattern
pub record IsPatternAt (source : Tokenized) (i : ℕ) (p : Pattern) : Type 0 where
  pub elements : List PatternPart
  pub within : i < length source.tokens
  pub is : kind_at source.tokens i ≡ kind.Text
  pub stands_for : IsPatternOf (inside_of (word_at source i)) elements
  pub same : pattern_view p ≡ map pattern_part elements

-- that the part is like the pattern of token i
pub data IsLike (source : Tokenized) (i : ℕ) (y : Expr) : Node → Type 0 where
  like_node : {p : Pattern} → IsPatternAt source i p → IsLike source i y (node.Like y p)

-- that the part is of the type that tokens i up to k name
pub data IsOfType (source : Tokenized) (i k : ℕ) (y : Expr) : Node → Type 0 where
  type_node : {t : EntityType} → IsNameAt source i k (type_name_of t) → IsOfType source i k y (node.Is y t)

abbrev pub IsUnary : Tokenized → Unary → Expr → Node → Type 0
IsUnary source (unaries.Sign Not) y n = n ≡ node.UnaryApp unary_op.Not y
IsUnary source (unaries.Sign Neg) y n = n ≡ node.UnaryApp unary_op.Neg y
IsUnary source (unaries.Attribute i) y n = IsAttribute source i y n
IsUnary source (unaries.Has i k) y n = IsHas source i k y n
IsUnary source (unaries.Like i) y n = IsLike source i y n
IsUnary source (unaries.Is i k) y n = IsOfType source i k y n

-- ---- of two parts

-- another node for the same expression at the same place, of the same parts
pub record IsCopy (x y : Expr) : Type 0 where
  pub same_view : view x ≡ view y
  pub same_loc : expr_loc x ≡ expr_loc y
  pub same_parts : parts_of x ≡ parts_of y

-- `y is T && y in z`, of three nodes, which all stand from byte s to byte e; the second `y` is a copy of the first
pub data IsOfTypeIn (source : Tokenized) (i k : ℕ) (y z : Expr) (s e : ℕ) : Node → Type 0 where
  type_in_node : {p q x : Expr} → IsOfType source i k y (node_of p) → expr_loc p ≡ place s e → IsCopy x y →
      node_of q ≡ node.BinaryApp binary_op.In x z → expr_loc q ≡ place s e →
      IsOfTypeIn source i k y z s e (node.And p q)

abbrev pub IsBinary : Tokenized → Binary → Expr → Expr → ℕ → ℕ → Node → Type 0
IsBinary source binaries.Or y z s e n = n ≡ node.Or y z
IsBinary source binaries.And y z s e n = n ≡ node.And y z
IsBinary source binaries.Equal y z s e n = n ≡ node.BinaryApp binary_op.Eq y z
IsBinary source binaries.Less y z s e n = n ≡ node.BinaryApp binary_op.Less y z
IsBinary source binaries.LessEqual y z s e n = n ≡ node.BinaryApp binary_op.LessEq y z
IsBinary source binaries.In y z s e n = n ≡ node.BinaryApp binary_op.In y z
IsBinary source binaries.Add y z s e n = n ≡ node.BinaryApp binary_op.Add y z
IsBinary source binaries.Sub y z s e n = n ≡ node.BinaryApp binary_op.Sub y z
IsBinary source binaries.Mul y z s e n = n ≡ node.BinaryApp binary_op.Mul y z
IsBinary source (binaries.IsIn i k) y z s e n = IsOfTypeIn source i k y z s e n

-- ---- of parts in brackets, but for records

-- a call of the function that tokens i up to k name
pub data IsCall (source : Tokenized) (i k : ℕ) (ys : List Expr) : Node → Type 0 where
  call_node : {f : Name} → IsNameAt source i k f → IsCall source i k ys (node.ExtensionFunctionApp f ys)

-- an operator on the receiver and one argument
pub data IsOperation (op : BinaryOp) : List Expr → Node → Type 0 where
  operation : {y z : Expr} → IsOperation op (y ∷ z ∷ []) (node.BinaryApp op y z)

-- `isEmpty`, of the receiver alone
pub data IsEmptiness : List Expr → Node → Type 0 where
  emptiness : {y : Expr} → IsEmptiness (y ∷ []) (node.UnaryApp unary_op.IsEmpty y)

-- a call of the method that token i names, of the receiver and the arguments behind it
abbrev pub IsMethod : Tokenized → ℕ → MethodKind → List Expr → Node → Type 0
IsMethod source i (methods.Operator op) ys n = IsOperation op ys n
IsMethod source i methods.IsEmpty ys n = IsEmptiness ys n
IsMethod source i methods.Function ys n = IsCall source i (i + 1) ys n

abbrev pub IsBracketed : Tokenized → Bracketed → List Expr → Node → Type 0
IsBracketed source Set ys n = n ≡ node.Set ys
IsBracketed source Record ys n = ⊥
IsBracketed source (Call i k) ys n = IsCall source i k ys n
IsBracketed source (Method i) ys n = IsMethod source i (method_of (word_at source i)) ys n

-- ---- trees

mutual
  -- the expression is this tree, part by part, and each part stands where the tree has it
  pub data Is (source : Tokenized) : Expr → Tree → Type 0 where
    is_leaf : {x : Expr} {l : Leaf} {s e : ℕ} → IsLeaf source l s e (node_of x) → expr_loc x ≡ place s e →
        Is source x (leaf l s e)
    is_unary : {x y : Expr} {u : Unary} {p : Tree} {s e : ℕ} → Is source y p → IsUnary source u y (node_of x) →
        expr_loc x ≡ place s e → Is source x (unary u p s e)
    is_binary : {x y z : Expr} {b : Binary} {p q : Tree} {s e : ℕ} → Is source y p → Is source z q →
        IsBinary source b y z s e (node_of x) → expr_loc x ≡ place s e → Is source x (binary b p q s e)
    is_conditional : {x c y z : Expr} {p q r : Tree} {s e : ℕ} → Is source c p → Is source y q → Is source z r →
        node_of x ≡ node.If c y z → expr_loc x ≡ place s e → Is source x (conditional p q r s e)
    is_bracketed : {x : Expr} {ys : List Expr} {k : Bracketed} {ps : Trees} {s e : ℕ} → AreParts source ys ps →
        IsBracketed source k ys (node_of x) → expr_loc x ≡ place s e → Is source x (bracketed k ps s e)
    is_record : {x : Expr} {fs : List (RcStr Global × Expr)} {ps : Trees} {s e : ℕ} → AreFields source fs ps →
        first_repeated (keys_view fs) ≡ None → node_of x ≡ node.Record (entries_in_order fs) →
        expr_loc x ≡ place s e → Is source x (bracketed Record ps s e)

  -- the expressions are these trees, in order
  pub data AreParts (source : Tokenized) : List Expr → Trees → Type 0 where
    no_part : AreParts source [] none
    part_behind : {ys : List Expr} {ps : Trees} {y : Expr} {p : Tree} → AreParts source ys ps → Is source y p →
        AreParts source (ys ++ y ∷ []) (also ps p)

  -- the expressions are the fields of these trees, in order, each under its own key
  pub data AreFields (source : Tokenized) : List (RcStr Global × Expr) → Trees → Type 0 where
    no_field : AreFields source [] none
    field_behind : {fs : List (RcStr Global × Expr)} {ps : Trees} {y : Expr} {p : Tree} {i s e : ℕ}
        (key : RcStr Global) → AreFields source fs ps → IsKeyAt source i (rc_str_bytes key) → Is source y p →
        AreFields source (fs ++ (key, y) ∷ []) (also ps (field i p s e))

-- ---- the stack

-- a finished part is this tree: an expression, or a field under its key
pub data IsPart (source : Tokenized) : Part → Tree → Type 0 where
  is_whole : {x : Expr} {p : Tree} → Is source x p → IsPart source (unkeyed x) p
  is_field : {x : Expr} {p : Tree} {i s e : ℕ} (key : RcStr Global) → IsKeyAt source i (rc_str_bytes key) →
      Is source x p → IsPart source (keyed i key x) (field i p s e)

-- the same of all, the latest first
pub data Are (source : Tokenized) : List Part → List Tree → Type 0 where
  no_more : Are source [] []
  one_more : {x : Part} {xs : List Part} {p : Tree} {ts : List Tree} → IsPart source x p → Are source xs ts →
      Are source (x ∷ xs) (p ∷ ts)

-- what is made of parts is what the step makes of their trees
abbrev pub Keeps : Tokenized → What → ℕ → ℕ → List Part → List Part → Type 0
Keeps source w s e xs ys = (ts : List Tree) → Are source xs ts → Are source ys (made w s e ts)

-- an expression of this node was put in front, and stands here
pub data Puts (n : Node) (s e : ℕ) : List Part → List Part → Type 0 where
  puts : {xs : List Part} {y : Expr} → node_of y ≡ n → expr_loc y ≡ place s e → Puts n s e xs (unkeyed y ∷ xs)
