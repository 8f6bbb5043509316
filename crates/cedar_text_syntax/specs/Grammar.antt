-- The grammar of expressions: which tokens derive which tree, and where each part of it stands.
--
--   Expr     ::= Or | 'if' Expr 'then' Expr 'else' Expr                   by_if
--   Or       ::= And {'||' And}                                           by_infix
--   And      ::= Relation {'&&' Relation}                                 by_infix
--   Relation ::= Add [RELOP Add]                                          by_infix
--              | Add 'has' (IDENT {'.' IDENT} | STR)                      by_has, by_has_text
--              | Add 'like' PAT                                           by_like
--              | Add 'is' Path ['in' Add]                                 by_is, by_is_in
--   Add      ::= Mult {('+' | '-') Mult}                                  by_infix
--   Mult     ::= Unary {'*' Unary}                                        by_infix
--   Unary    ::= ['!' | '-']x4 Member                                     by_signs, by_negative
--   Member   ::= Primary {Access}
--   Access   ::= '.' IDENT                                                by_attribute
--              | '.' IDENT '(' [ExprList] ')'                             by_brackets, opens_method
--              | '[' STR ']'                                              by_index
--   Primary  ::= LITERAL | VAR                                            by_leaf, by_number
--              | Entity                                                   by_entity
--              | ExtFun '(' [ExprList] ')'                                by_brackets, opens_call
--              | '(' Expr ')'                                             by_parens
--              | '[' [ExprList] ']'                                       by_brackets, opens_set
--              | '{' [RecInits] '}'                                       by_brackets, opens_record
--   ExprList ::= Expr {',' Expr}                                          Lists, item
--   RecInits ::= (IDENT | STR) ':' Expr {',' (IDENT | STR) ':' Expr}      Lists, keyed
--   Entity   ::= Path '::' STR
--   ExtFun, Path ::= NAME {'::' NAME}                                     IsPath
--   RELOP    ::= '<' | '<=' | '>=' | '>' | '!=' | '==' | 'in'
--   LITERAL  ::= 'true' | 'false' | INT | STR
--   VAR      ::= 'principal' | 'action' | 'resource' | 'context'
--
-- Precedence is in numbers: `Derives all n ..` is a part of level n (Levels), and a rule says up to which level it
-- takes its parts. `!=`, `>` and `>=` are the negations of `==`, `<=` and `<`. A minus right before a number that stands
-- alone is the number's own: `-1` is a literal, `-(1)` and `-1.a` are negations of what follows. At most four signs of
-- one kind stand before a part, and no signs of two kinds. An IDENT is any word but the reserved ones, also behind a dot
-- and as a key of a record, where a reserved word stands in quotes: `a["if"]`. A NAME is any IDENT but `__cedar`, which is
-- reserved in names of types, namespaces and functions. No comma stands behind the last part of a
-- list. Which functions and methods there are, how many parts they take, whether a number fits, whether a text is well
-- written and whether a key is a duplicate is not asked here.
use Rattle.std.specs.Prelude.{◌≡◌, ℕ, ◌+◌, ◌<◌, ◌≤◌, List, length, Option, Some, None, Bool, true, false, suc}
use Rattle.cedar_text_lexer.specs.Kinds.{is_identifier, is_name}
use Rattle.cedar_text_lexer.specs.declared.tokens.Kind.{Kind}
use Rattle.cedar_text_lexer.specs.declared.tokens.Kind.TheVariants as kind
use Rattle.cedar_text_lexer.specs.declared.tokens.Token.{Token}
use Rattle.cedar_text_syntax.specs.declared.levels.Operator.{Operator}
use Rattle.cedar_text_syntax.specs.declared.levels.Operator.TheVariants as operator
use Rattle.cedar_text_syntax.specs.declared.steps.Leaf.{Leaf}
use Rattle.cedar_text_syntax.specs.declared.steps.Leaf.TheVariants as leaves
use Rattle.cedar_text_syntax.specs.declared.steps.Sign.{Sign}
use Rattle.cedar_text_syntax.specs.declared.steps.Sign.TheVariants.{Not, Neg}
use Rattle.cedar_text_syntax.specs.declared.steps.Unary.TheVariants as unaries
use Rattle.cedar_text_syntax.specs.declared.steps.Binary.{Binary}
use Rattle.cedar_text_syntax.specs.declared.steps.Binary.TheVariants as binaries
use Rattle.cedar_text_syntax.specs.declared.steps.Bracketed.{Bracketed}
use Rattle.cedar_text_syntax.specs.declared.steps.Bracketed.TheVariants.{Set, Record, Call, Method}
use Rattle.cedar_text_syntax.specs.Levels.{level_of, left_level_of, lowest_of}
use Rattle.cedar_text_lexer.specs.Sequence.{kind_at, start_at, end_at}
use Rattle.cedar_text_syntax.specs.Trees.{Tree, leaf, unary, binary, conditional, field, bracketed, Trees, none, also}
use Rattle.cedar_text_syntax.specs.Trees.{signed}

-- ---- tokens

-- the keys of records
abbrev pub is_key : Kind → Bool
is_key kind.Text = true
is_key k = is_identifier k

-- what a token alone is, but for numbers
abbrev pub leaf_of : Kind → ℕ → Option Leaf
leaf_of kind.True i = Some (leaves.Bool true)
leaf_of kind.False i = Some (leaves.Bool false)
leaf_of kind.Text i = Some (leaves.Text i)
leaf_of kind.Principal i = Some (leaves.Variable i)
leaf_of kind.Action i = Some (leaves.Variable i)
leaf_of kind.Resource i = Some (leaves.Variable i)
leaf_of kind.Context i = Some (leaves.Variable i)
leaf_of _ i = None

-- the operators between two parts
abbrev pub operator_of : Kind → Option Operator
operator_of kind.Or = Some operator.Or
operator_of kind.And = Some operator.And
operator_of kind.Equal = Some operator.Equal
operator_of kind.NotEqual = Some operator.NotEqual
operator_of kind.Less = Some operator.Less
operator_of kind.LessEqual = Some operator.LessEqual
operator_of kind.Greater = Some operator.Greater
operator_of kind.GreaterEqual = Some operator.GreaterEqual
operator_of kind.In = Some operator.In
operator_of kind.Plus = Some operator.Add
operator_of kind.Minus = Some operator.Sub
operator_of kind.Star = Some operator.Mul
operator_of _ = None

abbrev pub kind_of : Sign → Kind
kind_of Not = kind.Bang
kind_of Neg = kind.Minus

-- what closes the brackets
abbrev pub closes : Bracketed → Kind → Bool
closes Set kind.CloseBracket = true
closes Set _ = false
closes Record kind.CloseBrace = true
closes Record _ = false
closes (Call i k) kind.CloseParen = true
closes (Call i k) _ = false
closes (Method i) kind.CloseParen = true
closes (Method i) _ = false

-- what stands in the brackets: expressions, or the fields of a record
abbrev pub takes_expressions : Bracketed → Bool
takes_expressions Set = true
takes_expressions Record = false
takes_expressions (Call i k) = true
takes_expressions (Method i) = true

-- ---- what operators make

abbrev pub binary_of : Operator → Binary
binary_of operator.Or = binaries.Or
binary_of operator.And = binaries.And
binary_of operator.Equal = binaries.Equal
binary_of operator.NotEqual = binaries.Equal
binary_of operator.Less = binaries.Less
binary_of operator.LessEqual = binaries.LessEqual
binary_of operator.Greater = binaries.LessEqual
binary_of operator.GreaterEqual = binaries.Less
binary_of operator.In = binaries.In
binary_of operator.Add = binaries.Add
binary_of operator.Sub = binaries.Sub
binary_of operator.Mul = binaries.Mul

abbrev pub is_negated : Operator → Bool
is_negated operator.Or = false
is_negated operator.And = false
is_negated operator.Equal = false
is_negated operator.NotEqual = true
is_negated operator.Less = false
is_negated operator.LessEqual = false
is_negated operator.Greater = true
is_negated operator.GreaterEqual = true
is_negated operator.In = false
is_negated operator.Add = false
is_negated operator.Sub = false
is_negated operator.Mul = false

abbrev pub negated_if : Bool → Tree → ℕ → ℕ → Tree
negated_if true p s e = unary (unaries.Sign Not) p s e
negated_if false p s e = p

-- what an operator makes of its sides
abbrev pub joined : Operator → Tree → Tree → ℕ → ℕ → Tree
joined o p q s e = negated_if (is_negated o) (binary (binary_of o) p q s e) s e

-- ---- rules

-- Path ::= NAME {'::' NAME}: tokens i up to, but not including, k, from byte s to byte e
pub data IsPath (all : List Token) : ℕ → ℕ → ℕ → ℕ → Type 0 where
  one_name : {i : ℕ} → is_name (kind_at all i) ≡ true → IsPath all i (i + 1) (start_at all i) (end_at all i)
  name_inside : {i k s e : ℕ} → IsPath all i k s e → kind_at all k ≡ kind.Colons →
      is_name (kind_at all (k + 1)) ≡ true → IsPath all i (k + 1 + 1) s (end_at all (k + 1))

-- IDENT {'.' IDENT}: tokens i up to k, to byte e
pub data IsDotted (all : List Token) : ℕ → ℕ → ℕ → Type 0 where
  one_attribute : {i : ℕ} → is_identifier (kind_at all i) ≡ true → IsDotted all i (i + 1) (end_at all i)
  attribute_inside : {i k e : ℕ} → IsDotted all i k e → kind_at all k ≡ kind.Dot →
      is_identifier (kind_at all (k + 1)) ≡ true → IsDotted all i (k + 1 + 1) (end_at all (k + 1))

-- so many of a sign: tokens i up to j
pub data AreSigns (all : List Token) (u : Sign) : ℕ → ℕ → ℕ → Type 0 where
  no_sign : {i : ℕ} → AreSigns all u 0 i i
  one_more : {c i j : ℕ} → AreSigns all u c i j → kind_at all j ≡ kind_of u → AreSigns all u (suc c) i (j + 1)

mutual
  -- tokens i up to, but not including, j derive the tree as a part of this level, from byte s to byte e
  pub data Derives (all : List Token) : ℕ → ℕ → ℕ → ℕ → ℕ → Tree → Type 0 where
    by_leaf : {i : ℕ} {l : Leaf} → leaf_of (kind_at all i) i ≡ Some l →
        Derives all 1 i (i + 1) (start_at all i) (end_at all i) (leaf l (start_at all i) (end_at all i))
    by_number : {i : ℕ} → kind_at all i ≡ kind.Number →
        Derives all 0 i (i + 1) (start_at all i) (end_at all i) (leaf (leaves.Long i) (start_at all i) (end_at all i))
    by_entity : {i k s e : ℕ} → IsPath all i k s e → kind_at all k ≡ kind.Colons → kind_at all (k + 1) ≡ kind.Text →
        Derives all 1 i (k + 1 + 1) s (end_at all (k + 1)) (leaf (leaves.Entity i (k + 1)) s (end_at all (k + 1)))
    by_parens : {n i j s e : ℕ} {p : Tree} → kind_at all i ≡ kind.OpenParen → Derives all n (i + 1) j s e p →
        kind_at all j ≡ kind.CloseParen → Derives all 1 i (j + 1) (start_at all i) (end_at all j) p
    by_brackets : {b i j s : ℕ} {k : Bracketed} {ps qs : Trees} → Opens all k b i s ps → Lists all k i j ps qs →
        closes k (kind_at all j) ≡ true → Derives all 1 b (j + 1) s (end_at all j) (bracketed k qs s (end_at all j))
    by_attribute : {m i j s e : ℕ} {p : Tree} → Derives all m i j s e p → m ≤ 1 → kind_at all j ≡ kind.Dot →
        is_identifier (kind_at all (j + 1)) ≡ true → Derives all 1 i (j + 1 + 1) s (end_at all (j + 1))
        (unary (unaries.Attribute (j + 1)) p s (end_at all (j + 1)))
    by_index : {m i j s e : ℕ} {p : Tree} → Derives all m i j s e p → m ≤ 1 → kind_at all j ≡ kind.OpenBracket →
        kind_at all (j + 1) ≡ kind.Text → kind_at all (j + 1 + 1) ≡ kind.CloseBracket → Derives all 1 i
        (j + 1 + 1 + 1) s (end_at all (j + 1 + 1)) (unary (unaries.Attribute (j + 1)) p s (end_at all (j + 1 + 1)))
    by_signs : {c m i j k s e : ℕ} {u : Sign} {p : Tree} → AreSigns all u (suc c) i j → suc c ≤ 4 →
        Derives all m j k s e p → m ≤ 1 → lowest_of u ≤ m →
        Derives all 2 i k (start_at all i) e (signed u (suc c) p (start_at all i) e)
    by_negative : {c i j : ℕ} → AreSigns all Neg (suc c) i j → suc c ≤ 4 → kind_at all j ≡ kind.Number → Derives all 2
        i (j + 1) (start_at all i) (end_at all j)
        (signed Neg c (leaf (leaves.NegativeLong j) (start_at all i) (end_at all j)) (start_at all i) (end_at all j))
    by_infix : {m n i j k s e f g : ℕ} {o : Operator} {p q : Tree} → Derives all m i j s e p → m ≤ left_level_of o →
        operator_of (kind_at all j) ≡ Some o → Derives all n (j + 1) k f g q → n < level_of o →
        Derives all (level_of o) i k s g (joined o p q s g)
    by_has : {m i j k s e f : ℕ} {p : Tree} → Derives all m i j s e p → m ≤ 4 → kind_at all j ≡ kind.Has →
        IsDotted all (j + 1) k f → Derives all 5 i k s f (unary (unaries.Has (j + 1) k) p s f)
    by_has_text : {m i j s e : ℕ} {p : Tree} → Derives all m i j s e p → m ≤ 4 → kind_at all j ≡ kind.Has →
        kind_at all (j + 1) ≡ kind.Text → Derives all 5 i (j + 1 + 1) s (end_at all (j + 1))
        (unary (unaries.Has (j + 1) (j + 1 + 1)) p s (end_at all (j + 1)))
    by_like : {m i j s e : ℕ} {p : Tree} → Derives all m i j s e p → m ≤ 4 → kind_at all j ≡ kind.Like →
        kind_at all (j + 1) ≡ kind.Text →
        Derives all 5 i (j + 1 + 1) s (end_at all (j + 1)) (unary (unaries.Like (j + 1)) p s (end_at all (j + 1)))
    by_is : {m i j k s e f g : ℕ} {p : Tree} → Derives all m i j s e p → m ≤ 4 → kind_at all j ≡ kind.Is →
        IsPath all (j + 1) k f g → Derives all 5 i k s g (unary (unaries.Is (j + 1) k) p s g)
    by_is_in : {m n i j k h s e f g x y : ℕ} {p q : Tree} → Derives all m i j s e p → m ≤ 4 →
        kind_at all j ≡ kind.Is → IsPath all (j + 1) k f g → kind_at all k ≡ kind.In → Derives all n (k + 1) h x y q →
        n < 5 → Derives all 5 i h s y (binary (binaries.IsIn (j + 1) k) p q s y)
    by_if : {l m n i j k h s e t f u g : ℕ} {p q r : Tree} → kind_at all i ≡ kind.If → Derives all l (i + 1) j s e p →
        kind_at all j ≡ kind.Then → Derives all m (j + 1) k t f q → kind_at all k ≡ kind.Else →
        Derives all n (k + 1) h u g r → Derives all 8 i h (start_at all i) g (conditional p q r (start_at all i) g)

  -- tokens b up to i open brackets of this kind, which stand from byte s on, with these parts: a method's receiver
  pub data Opens (all : List Token) : Bracketed → ℕ → ℕ → ℕ → Trees → Type 0 where
    opens_set : {i : ℕ} → kind_at all i ≡ kind.OpenBracket → Opens all Set i (i + 1) (start_at all i) none
    opens_record : {i : ℕ} → kind_at all i ≡ kind.OpenBrace → Opens all Record i (i + 1) (start_at all i) none
    opens_call : {i k s e : ℕ} → IsPath all i k s e → kind_at all k ≡ kind.OpenParen →
        Opens all (Call i k) i (k + 1) s none
    opens_method : {m i j s e : ℕ} {p : Tree} → Derives all m i j s e p → m ≤ 1 → kind_at all j ≡ kind.Dot →
        is_identifier (kind_at all (j + 1)) ≡ true → kind_at all (j + 1 + 1) ≡ kind.OpenParen →
        Opens all (Method (j + 1)) i (j + 1 + 1 + 1) s (also none p)

  -- {Item ','}: tokens i up to j, with the trees before and after
  pub data Begins (all : List Token) : Bracketed → ℕ → ℕ → Trees → Trees → Type 0 where
    nothing : {k : Bracketed} {i : ℕ} {ps : Trees} → Begins all k i i ps ps
    comma : {k : Bracketed} {i m j : ℕ} {p : Tree} {ps qs : Trees} → Begins all k i m ps qs → IsItem all k m j p →
        kind_at all j ≡ kind.Comma → Begins all k i (j + 1) ps (also qs p)

  -- [{Item ','} Item]
  pub data Lists (all : List Token) : Bracketed → ℕ → ℕ → Trees → Trees → Type 0 where
    empty : {k : Bracketed} {i : ℕ} {ps : Trees} → Lists all k i i ps ps
    filled : {k : Bracketed} {i m j : ℕ} {p : Tree} {ps qs : Trees} → Begins all k i m ps qs → IsItem all k m j p →
        Lists all k i j ps (also qs p)

  -- Expr, or of a record (IDENT | STR) ':' Expr
  pub data IsItem (all : List Token) : Bracketed → ℕ → ℕ → Tree → Type 0 where
    item : {k : Bracketed} {n i j s e : ℕ} {p : Tree} → takes_expressions k ≡ true → Derives all n i j s e p →
        IsItem all k i j p
    keyed : {n i j s e : ℕ} {p : Tree} → is_key (kind_at all i) ≡ true → kind_at all (i + 1) ≡ kind.Colon →
        Derives all n (i + 1 + 1) j s e p → IsItem all Record i j (field i p (start_at all i) e)

-- the tokens before the last, which is of kind `End`, derive the tree
pub data IsExpression (all : List Token) : Tree → Type 0 where
  whole : {n j s e : ℕ} {p : Tree} → Derives all n 0 j s e p → kind_at all j ≡ kind.End → j + 1 ≡ length all →
      IsExpression all p

-- `{ Expr }`: token i opens the braces, token j closes them, and those between derive the tree
pub data IsInBraces (all : List Token) : ℕ → ℕ → Tree → Type 0 where
  in_braces : {n i j s e : ℕ} {p : Tree} → kind_at all i ≡ kind.OpenBrace → Derives all n (i + 1) j s e p →
      kind_at all j ≡ kind.CloseBrace → IsInBraces all i j p
