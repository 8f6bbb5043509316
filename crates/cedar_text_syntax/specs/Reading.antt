-- What a machine that reads an expression keeps.
use Rattle.std.specs.Prelude.{◌≡◌, ℕ, ◌+◌, ◌<◌, ◌≤◌, List, [], ◌∷◌, length, Bool, true, false, Some, suc}
use Prim.Native.Nat.{max}
use Rattle.cedar_text_lexer.specs.declared.tokens.Kind.{Kind}
use Rattle.cedar_text_lexer.specs.declared.tokens.Kind.TheVariants as kind
use Rattle.cedar_text_lexer.specs.declared.tokens.Token.{Token}
use Rattle.cedar_text_syntax.specs.declared.levels.Operator.{Operator}
use Rattle.cedar_text_syntax.specs.declared.steps.Sign.{Sign}
use Rattle.cedar_text_syntax.specs.declared.steps.Sign.TheVariants.{Not}
use Rattle.cedar_text_syntax.specs.declared.steps.Unary.TheVariants as unaries
use Rattle.cedar_text_syntax.specs.declared.steps.What.TheVariants as what
use Rattle.cedar_text_syntax.specs.declared.steps.Bracketed.{Bracketed}
use Rattle.cedar_text_syntax.specs.declared.steps.Bracketed.TheVariants.{Record}
use Rattle.cedar_text_syntax.specs.declared.frames.Frame.{Frame}
use Rattle.cedar_text_syntax.specs.declared.frames.Wait.{Wait}
use Rattle.cedar_text_syntax.specs.declared.frames.Wait.TheVariants as wait
use Rattle.cedar_text_syntax.specs.Levels.{level_of, left_level_of, awaited}
use Rattle.cedar_text_lexer.specs.Sequence.{kind_at, start_at, end_at}
use Rattle.cedar_text_syntax.specs.Trees.{Tree, Trees, height, tallest, count, stacked, made}
use Rattle.cedar_text_syntax.specs.Places.{IsInOrder, IsInside, IsNested}
use Rattle.cedar_text_syntax.specs.Grammar.{is_key, binary_of, is_negated, takes_expressions, operator_of, IsPath}
use Rattle.cedar_text_syntax.specs.Grammar.{IsDotted, AreSigns, Derives, Opens, Begins, IsItem, IsExpression, IsInBraces}

-- what is seen of the work: what waits, what is made, and of the part that was read last the level, the bytes and the
-- height
pub record Look : Type 0 where
  pub frames : List Frame
  pub trees : List Tree
  pub level : ℕ
  pub start : ℕ
  pub end : ℕ
  pub height : ℕ

-- ---- what waits

mutual
  -- the frames wait for an expression that begins at token i; the trees are those of the parts before it
  pub data Waits (all : List Token) : List Frame → List Tree → ℕ → Type 0 where
    for_all : Waits all [] [] 0
    in_clause : {i : ℕ} → kind_at all i ≡ kind.OpenBrace →
        Waits all (record { wait = wait.Clause i; start = start_at all i; height = 0 } ∷ []) [] (i + 1)
    in_parens : {fs : List Frame} {ts : List Tree} {i : ℕ} → Waits all fs ts i → kind_at all i ≡ kind.OpenParen →
        Waits all (record { wait = wait.Paren; start = start_at all i; height = 0 } ∷ fs) ts (i + 1)
    behind_signs : {fs : List Frame} {ts : List Tree} {c i j : ℕ} {u : Sign} → Waits all fs ts i → 2 < awaited fs →
        AreSigns all u (suc c) i j → suc c ≤ 4 →
        Waits all (record { wait = wait.Signs u (suc c); start = start_at all i; height = 0 } ∷ fs) ts j
    behind_infix : {fs : List Frame} {ts : List Tree} {m i j s e : ℕ} {o : Operator} {p : Tree} → Waits all fs ts i →
        Derives all m i j s e p → m ≤ left_level_of o → level_of o < awaited fs →
        operator_of (kind_at all j) ≡ Some o →
        Waits all (record { wait = wait.Infix o; start = s; height = height p } ∷ fs) (p ∷ ts) (j + 1)
    behind_is_in : {fs : List Frame} {ts : List Tree} {m i j k s e f g : ℕ} {p : Tree} → Waits all fs ts i →
        Derives all m i j s e p → m ≤ 4 → 5 < awaited fs → kind_at all j ≡ kind.Is → IsPath all (j + 1) k f g →
        kind_at all k ≡ kind.In →
        Waits all (record { wait = wait.IsIn (j + 1) k; start = s; height = height p } ∷ fs) (p ∷ ts) (k + 1)
    behind_if : {fs : List Frame} {ts : List Tree} {i : ℕ} → Waits all fs ts i → 8 < awaited fs →
        kind_at all i ≡ kind.If →
        Waits all (record { wait = wait.If; start = start_at all i; height = 0 } ∷ fs) ts (i + 1)
    behind_then : {fs : List Frame} {ts : List Tree} {l i j s e : ℕ} {p : Tree} → Waits all fs ts i → 8 < awaited fs →
        kind_at all i ≡ kind.If → Derives all l (i + 1) j s e p → kind_at all j ≡ kind.Then →
        Waits all (record { wait = wait.Then; start = start_at all i; height = height p } ∷ fs) (p ∷ ts) (j + 1)
    behind_else : {fs : List Frame} {ts : List Tree} {l m i j k s e t f : ℕ} {p q : Tree} → Waits all fs ts i →
        8 < awaited fs → kind_at all i ≡ kind.If → Derives all l (i + 1) j s e p → kind_at all j ≡ kind.Then →
        Derives all m (j + 1) k t f q → kind_at all k ≡ kind.Else → Waits all
        (record { wait = wait.Else; start = start_at all i; height = max (height p) (height q) } ∷ fs) (q ∷ p ∷ ts)
        (k + 1)
    for_item : {k : Bracketed} {n s h i : ℕ} {fs : List Frame} {ts : List Tree} → InBrackets all k n s h fs ts i →
        takes_expressions k ≡ true → Waits all (record { wait = wait.Item k n; start = s; height = h } ∷ fs) ts i
    behind_key : {n s h i : ℕ} {fs : List Frame} {ts : List Tree} → InBrackets all Record n s h fs ts i →
        is_key (kind_at all i) ≡ true → kind_at all (i + 1) ≡ kind.Colon →
        Waits all (record { wait = wait.Field i n; start = s; height = h } ∷ fs) ts (i + 1 + 1)

  -- brackets of this kind stand from byte s on, with so many parts so far, the highest of which has h levels; one more
  -- begins at token j; the frames wait for the brackets as a whole
  pub data InBrackets (all : List Token) : Bracketed → ℕ → ℕ → ℕ → List Frame → List Tree → ℕ → Type 0 where
    brackets : {fs : List Frame} {ts : List Tree} {b i j s : ℕ} {k : Bracketed} {ps qs : Trees} → Waits all fs ts b →
        Opens all k b i s ps → Begins all k i j ps qs →
        InBrackets all k (count qs) s (tallest qs) fs (stacked qs ts) j

-- brackets were opened, which take expressions or not, and nothing more was read
pub data HasOpened (all : List Token) : Bool → List Frame → List Tree → ℕ → Type 0 where
  opened : {fs : List Frame} {ts : List Tree} {b i s : ℕ} {k : Bracketed} {ps : Trees} → Waits all fs ts b →
      Opens all k b i s ps → HasOpened all (takes_expressions k)
      (record { wait = wait.Item k (count ps); start = s; height = tallest ps } ∷ fs) (stacked ps ts) i

-- a key of a record is waited for
pub data AwaitsKey (all : List Token) : List Frame → List Tree → ℕ → Type 0 where
  for_key : {n s h i : ℕ} {fs : List Frame} {ts : List Tree} → InBrackets all Record n s h fs ts i →
      AwaitsKey all (record { wait = wait.Item Record n; start = s; height = h } ∷ fs) ts i

-- ---- what was read

-- a part was read, up to token j: it is the last tree
pub data Reads (all : List Token) : Look → ℕ → Type 0 where
  part : {fs : List Frame} {ts : List Tree} {n i j s e : ℕ} {p : Tree} → Waits all fs ts i → Derives all n i j s e p →
      n < awaited fs →
      Reads all (record { frames = fs; trees = p ∷ ts; level = n; start = s; end = e; height = height p }) j

-- the same, and a token of this kind behind it
pub data Behind (all : List Token) (w : Kind) (l : Look) : ℕ → Type 0 where
  behind : {j : ℕ} → Reads all l j → kind_at all j ≡ w → Behind all w l (j + 1)

-- the same, where what is read is the left side of a relation
pub record IsRelated (all : List Token) (w : Kind) (l : Look) (i : ℕ) : Type 0 where
  pub read : Behind all w l i
  pub low : l.level ≤ 4
  pub awaited_below : 5 < awaited l.frames

-- a part of a name, and `::` behind it
pub data BehindColons (all : List Token) : ℕ → ℕ → ℕ → Type 0 where
  colons : {i k s e : ℕ} → IsPath all i k s e → kind_at all k ≡ kind.Colons → BehindColons all i (k + 1) s

-- attributes, and a dot behind them
pub data BehindDot (all : List Token) : ℕ → ℕ → Type 0 where
  dot : {i k e : ℕ} → IsDotted all i k e → kind_at all k ≡ kind.Dot → BehindDot all i (k + 1)

-- an item in brackets was read, up to token j: its height is g, and it is the last tree
pub data HasItem (all : List Token) : Bracketed → ℕ → ℕ → ℕ → List Frame → List Tree → ℕ → ℕ → Type 0 where
  has_item : {k : Bracketed} {n s h i j : ℕ} {fs : List Frame} {ts : List Tree} {p : Tree} →
      InBrackets all k n s h fs ts i → IsItem all k i j p → HasItem all k n s h fs (p ∷ ts) (height p) j

-- ---- the same of what is seen of the work

-- one more frame waits
abbrev pub under : Wait → ℕ → ℕ → Look → Look
under w s h l = record l { frames = record { wait = w; start = s; height = h } ∷ l.frames }

abbrev pub IsAwaiting : List Token → Look → ℕ → Type 0
IsAwaiting all l i = Waits all l.frames l.trees i

abbrev pub IsAwaitingKey : List Token → Look → ℕ → Type 0
IsAwaitingKey all l i = AwaitsKey all l.frames l.trees i

abbrev pub IsOpened : List Token → Look → ℕ → Type 0
IsOpened all l i = (b : Bool) × HasOpened all b l.frames l.trees i

abbrev pub IsItemRead : List Token → Bracketed → ℕ → ℕ → ℕ → Look → ℕ → Type 0
IsItemRead all k n s h l j = HasItem all k n s h l.frames l.trees l.height j

-- the whole was read, with the last token: its height is h
pub data IsWhole (all : List Token) : ℕ → List Tree → ℕ → Type 0 where
  is_whole : {n j s e : ℕ} {p : Tree} → Derives all n 0 j s e p → kind_at all j ≡ kind.End →
      IsWhole all (height p) (p ∷ []) (j + 1)

-- the tokens derive a tree, which the steps make; it is no higher than the limit, and if the tokens stand in order,
-- each part of it stands inside what it is a part of
pub data HasRead (all : List Token) (limit : ℕ) : List Tree → Type 0 where
  has_read : {p : Tree} → IsExpression all p → height p ≤ limit → (IsInOrder all → IsNested all p) →
      HasRead all limit (p ∷ [])

-- the whole was read that stands in the braces which token i opens, and the brace that closes them: its height is h
pub data IsClosed (all : List Token) : ℕ → ℕ → List Tree → ℕ → Type 0 where
  is_closed : {i j : ℕ} {p : Tree} → IsInBraces all i j p → IsClosed all i (height p) (p ∷ []) (j + 1)

-- tokens i and j are the braces round what derives the tree, which has h levels and is no higher than the limit;
-- if the tokens stand in order, the tree stands between the braces, and each part of it inside what it is a part of
pub data HasReadClause (all : List Token) (i limit : ℕ) : ℕ → ℕ → List Tree → Type 0 where
  has_read_clause : {j : ℕ} {p : Tree} → IsInBraces all i j p → height p ≤ limit → j < length all →
      (IsInOrder all → IsInside (start_at all i) (end_at all j) p) → HasReadClause all i limit j (height p) (p ∷ [])

-- ---- what is made

abbrev pub negate_made : Bool → Look → Look
negate_made true l =
    record l { trees = made (what.Unary (unaries.Sign Not)) l.start l.end l.trees; height = l.height + 1 }
negate_made false l = l

-- what an operator makes of the last two parts, the first of which has so many levels
abbrev pub join_made : Operator → ℕ → ℕ → Look → Look
join_made o s h l = negate_made (is_negated o) (record {
  frames = l.frames;
  trees = made (what.Binary (binary_of o)) s l.end l.trees;
  level = level_of o;
  start = s;
  end = l.end;
  height = max h l.height + 1;
})
