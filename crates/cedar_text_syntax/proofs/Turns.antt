-- What a token more makes of where the machine stands: operands, signs, operators, parentheses and `if`.
use Rattle.std.proofs.Common.{◌≡◌, ◌∙◌, ℕ, ◌+◌, ◌-◌, ◌<◌, ◌≤◌, List, [], ◌∷◌, refl, sym, ap, subst, arith}
use Rattle.std.proofs.Common.{lit<, Bool, true, false, suc, zero, Some, add-one}
use Prim.Native.Nat.{max}
use Rattle.cedar_text_lexer.specs.declared.tokens.Kind.TheVariants as kind
use Rattle.cedar_text_lexer.specs.declared.tokens.Token.{Token}
use Rattle.cedar_text_syntax.specs.declared.levels.Operator.{Operator}
use Rattle.cedar_text_syntax.specs.declared.levels.Operator.TheVariants as operator
use Rattle.cedar_text_syntax.specs.declared.steps.Leaf.{Leaf}
use Rattle.cedar_text_syntax.specs.declared.steps.Leaf.TheVariants as leaves
use Rattle.cedar_text_syntax.specs.declared.steps.Sign.{Sign}
use Rattle.cedar_text_syntax.specs.declared.steps.Sign.TheVariants.{Neg}
use Rattle.cedar_text_syntax.specs.declared.steps.Unary.TheVariants as unaries
use Rattle.cedar_text_syntax.specs.declared.steps.Binary.TheVariants as binaries
use Rattle.cedar_text_syntax.specs.declared.steps.What.TheVariants as what
use Rattle.cedar_text_syntax.specs.declared.frames.Frame.{Frame}
use Rattle.cedar_text_syntax.specs.declared.frames.Wait.TheVariants as wait
use Rattle.cedar_text_syntax.specs.Levels.{level_of, left_level_of, lowest_of, awaited}
use Rattle.cedar_text_lexer.specs.Sequence.{kind_at, start_at, end_at}
use Rattle.cedar_text_syntax.specs.Trees.{Tree, leaf, height, levels_of, made, signed, signs_made}
use Rattle.cedar_text_syntax.specs.Grammar.{leaf_of, operator_of, kind_of, binary_of, is_negated, negated_if, no_sign}
use Rattle.cedar_text_syntax.specs.Grammar.{one_more, Derives, by_leaf, by_number, by_parens, by_signs, by_negative}
use Rattle.cedar_text_syntax.specs.Grammar.{by_infix, by_is_in, by_if, in_braces}
use Rattle.cedar_text_syntax.specs.Reading.{Look, Waits, for_all, in_clause, in_parens, behind_signs, behind_infix, behind_is_in}
use Rattle.cedar_text_syntax.specs.Reading.{behind_if, behind_then, behind_else, for_item, behind_key, Reads, part}
use Rattle.cedar_text_syntax.specs.Reading.{IsWhole, is_whole, IsClosed, is_closed, join_made, negate_made}

above_two : (o : Operator) → 2 < level_of o
above_two operator.Or = lit< tt
above_two operator.And = lit< tt
above_two operator.Equal = lit< tt
above_two operator.NotEqual = lit< tt
above_two operator.Less = lit< tt
above_two operator.LessEqual = lit< tt
above_two operator.Greater = lit< tt
above_two operator.GreaterEqual = lit< tt
above_two operator.In = lit< tt
above_two operator.Add = lit< tt
above_two operator.Sub = lit< tt
above_two operator.Mul = lit< tt

-- wherever an expression is waited for, a member may stand
pub some_awaited : {all : List Token} {fs : List Frame} {ts : List Tree} {i : ℕ} → Waits all fs ts i → 1 < awaited fs
some_awaited for_all = lit< tt
some_awaited (in_clause k) = lit< tt
some_awaited (in_parens w k) = lit< tt
some_awaited (behind_signs w below h le) = lit< tt
some_awaited (behind_infix {o = o} w d le lt k) = omega (arith, above_two o)
some_awaited (behind_is_in w d le lt k h l) = lit< tt
some_awaited (behind_if w lt k) = lit< tt
some_awaited (behind_then w lt k d l) = lit< tt
some_awaited (behind_else w lt k d l f m) = lit< tt
some_awaited (for_item b t) = lit< tt
some_awaited (behind_key b k l) = lit< tt

-- ---- operands

pub leaf_read : {all : List Token} {fs : List Frame} {ts : List Tree} {i s e : ℕ} {l : Leaf} {m : Look} →
    Waits all fs ts i → leaf_of (kind_at all i) i ≡ Some l → s ≡ start_at all i → e ≡ end_at all i →
    m ≡ record { frames = fs; trees = leaf l s e ∷ ts; level = 1; start = s; end = e; height = 1 } →
    Reads all m (i + 1)
leaf_read w k s_is e_is m_is = rw (m_is, s_is, e_is) (part w (by_leaf k) (some_awaited w))

pub variable_read : {all : List Token} {fs : List Frame} {ts : List Tree} {at i s e : ℕ} {l : Leaf} {m : Look} →
    Waits all fs ts at → leaf_of (kind_at all at) at ≡ Some l → i ≡ at + 1 → s ≡ start_at all at → e ≡ end_at all at →
    m ≡ record { frames = fs; trees = leaf l s e ∷ ts; level = 1; start = s; end = e; height = 1 } → Reads all m i
variable_read w k i_is s_is e_is m_is = rw i_is (leaf_read w k s_is e_is m_is)

pub long_read : {all : List Token} {fs : List Frame} {ts : List Tree} {at i s e : ℕ} {m : Look} → Waits all fs ts at →
    kind_at all at ≡ kind.Number → i ≡ at + 1 → s ≡ start_at all at → e ≡ end_at all at →
    m ≡ record { frames = fs; trees = leaf (leaves.Long at) s e ∷ ts; level = 0; start = s; end = e; height = 1 } →
    Reads all m i
long_read w k i_is s_is e_is m_is = rw (m_is, i_is, s_is, e_is) (part w (by_number k) (omega (arith, some_awaited w)))

pub paren_opened : {all : List Token} {fs gs : List Frame} {ts us : List Tree} {i s : ℕ} → Waits all fs ts i →
    kind_at all i ≡ kind.OpenParen → s ≡ start_at all i →
    gs ≡ record { wait = wait.Paren; start = s; height = 0 } ∷ fs → us ≡ ts → Waits all gs us (i + 1)
paren_opened w k s_is g_is u_is = rw (g_is, u_is, s_is) (in_parens w k)

pub if_read : {all : List Token} {fs gs : List Frame} {ts us : List Tree} {i s : ℕ} → Waits all fs ts i →
    8 < awaited fs → kind_at all i ≡ kind.If → s ≡ start_at all i →
    gs ≡ record { wait = wait.If; start = s; height = 0 } ∷ fs → us ≡ ts → Waits all gs us (i + 1)
if_read w lt k s_is g_is u_is = rw (g_is, u_is, s_is) (behind_if w lt k)

-- ---- signs

pub sign_read : {all : List Token} {fs gs : List Frame} {ts us : List Tree} {i s : ℕ} {u : Sign} → Waits all fs ts i →
    2 < awaited fs → kind_at all i ≡ kind_of u → s ≡ start_at all i →
    gs ≡ record { wait = wait.Signs u 1; start = s; height = 0 } ∷ fs → us ≡ ts → Waits all gs us (i + 1)
sign_read w lt k s_is g_is u_is = rw (g_is, u_is, s_is) (behind_signs {c = 0} w lt (one_more no_sign k) (omega arith))

pub another_sign_read : {all : List Token} {fs gs : List Frame} {ts us : List Tree} {n i s h : ℕ} {u : Sign} →
    Waits all (record { wait = wait.Signs u n; start = s; height = h } ∷ fs) ts i → n ≤ 3 →
    kind_at all i ≡ kind_of u → gs ≡ record { wait = wait.Signs u (n + 1); start = s; height = h } ∷ fs → us ≡ ts →
    Waits all gs us (i + 1)
another_sign_read (behind_signs {c = c} w lt h le) few k g_is u_is =
    rw (g_is, u_is, add-one (suc c)) (behind_signs w lt (one_more h k) (omega (arith, few)))

signs_made-signed : (u : Sign) (c s e : ℕ) (p : Tree) (ts : List Tree) →
    signs_made u c s e (p ∷ ts) ≡ signed u c p s e ∷ ts
signs_made-signed u zero s e p ts = refl
signs_made-signed u (suc c) s e p ts =
    ap (λ (us : List Tree). made (what.Unary (unaries.Sign u)) s e us) (signs_made-signed u c s e p ts)

height-signed : (u : Sign) (c s e : ℕ) (p : Tree) → height (signed u c p s e) ≡ height p + c
height-signed u zero s e p = omega arith
height-signed u (suc c) s e p = omega (arith, height-signed u c s e p)

pub signs_read : {all : List Token} {fs : List Frame} {ts : List Tree} {n l s e g h c j : ℕ} {u : Sign} {m : Look} →
    Reads all
    (record {
      frames = record { wait = wait.Signs u c; start = s; height = h } ∷ fs;
      trees = ts;
      level = l;
      start = g;
      end = e;
      height = n;
    }) j → lowest_of u ≤ l →
    m ≡ record { frames = fs; trees = signs_made u c s e ts; level = 2; start = s; end = e; height = n + c } →
    Reads all m j
signs_read {s = s} {e = e} (part {ts = us} {p = p} (behind_signs {c = c} {u = u} w lt h le) d below) low m_is =
    rw (m_is, signs_made-signed u (suc c) s e p us, ← height-signed u (suc c) s e p)
    (part w (by_signs h le d (omega (arith, below)) low) lt)

negative_part : {all : List Token} {fs : List Frame} {ts : List Tree} {n at i s e h c : ℕ} →
    Waits all (record { wait = wait.Signs Neg n; start = s; height = h } ∷ fs) ts at → kind_at all at ≡ kind.Number →
    i ≡ at + 1 → e ≡ end_at all at → c ≡ n - 1 → Reads all
    (record {
      frames = fs;
      trees = signs_made Neg c s e (leaf (leaves.NegativeLong at) s e ∷ ts);
      level = 2;
      start = s;
      end = e;
      height = 1 + c;
    }) i
negative_part {all} {ts = ts} {at = at} {s = s} {e = e} {c = c} (behind_signs {c = d} w lt h le) k i_is e_is c_is =
    let c_is : c ≡ d = omega (arith, c_is) in
    rw (
      i_is,
      c_is,
      e_is,
      signs_made-signed Neg d s (end_at all at) (leaf (leaves.NegativeLong at) s (end_at all at)) ts,
      ← height-signed Neg d s (end_at all at) (leaf (leaves.NegativeLong at) s (end_at all at)),
    )
    (part w (by_negative h le k) lt)

-- the number is the part first, and then the signs are put before it
pub negative_read : {all : List Token} {fs : List Frame} {ts : List Tree} {n at i s e h c : ℕ} {l m : Look} →
    Waits all (record { wait = wait.Signs Neg n; start = s; height = h } ∷ fs) ts at → kind_at all at ≡ kind.Number →
    i ≡ at + 1 → e ≡ end_at all at → c ≡ n - 1 → l ≡ record
    { frames = fs; trees = leaf (leaves.NegativeLong at) s e ∷ ts; level = 2; start = s; end = e; height = 1 } → m ≡
    record {
      frames = l.frames;
      trees = signs_made Neg c s l.end l.trees;
      level = 2;
      start = s;
      end = l.end;
      height = l.height + c;
    } → Reads all m i
negative_read {all} {i = i} {s = s} {c = c} w k i_is e_is c_is l_is m_is =
    let m_is =
    m_is ∙ ap
    (λ (x : Look). let y : Look = record {
      frames = x.frames;
      trees = signs_made Neg c s x.end x.trees;
      level = 2;
      start = s;
      end = x.end;
      height = x.height + c;
    } in y) l_is in
    subst (λ (x : Look). Reads all x i) (sym m_is) (negative_part w k i_is e_is c_is)

-- ---- operators

pub infix_read : {all : List Token} {i : ℕ} {l : Look} {gs : List Frame} {us : List Tree} {o : Operator} →
    Reads all l i → l.level ≤ left_level_of o → operator_of (kind_at all i) ≡ Some o → level_of o < awaited l.frames →
    gs ≡ record { wait = wait.Infix o; start = l.start; height = l.height } ∷ l.frames → us ≡ l.trees →
    Waits all gs us (i + 1)
infix_read (part w d lt) le k below g_is u_is = rw (g_is, u_is) (behind_infix w d le below k)

one_level : (o : Operator) → levels_of (binary_of o) ≡ 1
one_level operator.Or = refl
one_level operator.And = refl
one_level operator.Equal = refl
one_level operator.NotEqual = refl
one_level operator.Less = refl
one_level operator.LessEqual = refl
one_level operator.Greater = refl
one_level operator.GreaterEqual = refl
one_level operator.In = refl
one_level operator.Add = refl
one_level operator.Sub = refl
one_level operator.Mul = refl

negated_read : {all : List Token} {fs : List Frame} {ts : List Tree} {i j s e l : ℕ} (b : Bool) (p : Tree) →
    Waits all fs ts i → Derives all l i j s e (negated_if b p s e) → l < awaited fs → Reads all
    (negate_made b (record { frames = fs; trees = p ∷ ts; level = l; start = s; end = e; height = height p })) j
negated_read true p w d lt = part w d lt
negated_read false p w d lt = part w d lt

pub join_read : {all : List Token} {fs : List Frame} {ts : List Tree} {n l s e g h j : ℕ} {o : Operator} {m : Look} →
    Reads all
    (record {
      frames = record { wait = wait.Infix o; start = s; height = h } ∷ fs;
      trees = ts;
      level = l;
      start = g;
      end = e;
      height = n;
    }) j →
    m ≡ join_made o s h (record { frames = fs; trees = ts; level = l; start = g; end = e; height = n }) →
    Reads all m j
join_read (part (behind_infix {o = o} w left le below sign) right lt) m_is =
    rw (m_is, ← one_level o) (negated_read (is_negated o) _ w (by_infix left le sign right lt) below)

pub is_in_read : {all : List Token} {fs : List Frame} {ts : List Tree} {n l s e g h j from to x : ℕ} {m : Look} →
    Reads all
    (record {
      frames = record { wait = wait.IsIn from to; start = s; height = h } ∷ fs;
      trees = ts;
      level = l;
      start = g;
      end = e;
      height = n;
    }) j → x ≡ max h n → m ≡ record {
      frames = fs;
      trees = made (what.Binary (binaries.IsIn from to)) s e ts;
      level = 5;
      start = s;
      end = e;
      height = x + 2;
    } → Reads all m j
is_in_read (part (behind_is_in w left le below k h l) right lt) x_is m_is =
    rw (m_is, x_is) (part w (by_is_in left le k h l right lt) below)

-- ---- `if`

pub then_read : {all : List Token} {fs gs : List Frame} {ts us : List Tree} {n l s e g h j : ℕ} → Reads all
    (record {
      frames = record { wait = wait.If; start = s; height = h } ∷ fs;
      trees = ts;
      level = l;
      start = g;
      end = e;
      height = n;
    }) j → kind_at all j ≡ kind.Then → gs ≡ record { wait = wait.Then; start = s; height = n } ∷ fs →
    us ≡ ts → Waits all gs us (j + 1)
then_read (part (behind_if w lt k) d below) l g_is u_is = rw (g_is, u_is) (behind_then w lt k d l)

pub else_read : {all : List Token} {fs gs : List Frame} {ts us : List Tree} {n l s e g h j x : ℕ} → Reads all
    (record {
      frames = record { wait = wait.Then; start = s; height = h } ∷ fs;
      trees = ts;
      level = l;
      start = g;
      end = e;
      height = n;
    }) j → kind_at all j ≡ kind.Else → x ≡ max h n →
    gs ≡ record { wait = wait.Else; start = s; height = x } ∷ fs → us ≡ ts → Waits all gs us (j + 1)
else_read (part (behind_then w lt k d l) f below) m x_is g_is u_is =
    rw (g_is, u_is, x_is) (behind_else w lt k d l f m)

pub conditional_read : {all : List Token} {fs : List Frame} {ts : List Tree} {n l s e g h j x : ℕ} {m : Look} → Reads
    all
    (record {
      frames = record { wait = wait.Else; start = s; height = h } ∷ fs;
      trees = ts;
      level = l;
      start = g;
      end = e;
      height = n;
    }) j → x ≡ max h n →
    m ≡ record { frames = fs; trees = made what.If s e ts; level = 8; start = s; end = e; height = x + 1 } →
    Reads all m j
conditional_read (part (behind_else w lt k d l f m) third below) x_is m_is =
    rw (m_is, x_is) (part w (by_if k d l f m third) lt)

-- ---- parentheses and the end

pub paren_closed : {all : List Token} {fs : List Frame} {ts : List Tree} {n l s e g h j f : ℕ} {m : Look} → Reads all
    (record {
      frames = record { wait = wait.Paren; start = s; height = h } ∷ fs;
      trees = ts;
      level = l;
      start = g;
      end = e;
      height = n;
    }) j → kind_at all j ≡ kind.CloseParen → f ≡ end_at all j →
    m ≡ record { frames = fs; trees = ts; level = 1; start = s; end = f; height = n } → Reads all m (j + 1)
paren_closed (part (in_parens w k) d below) l f_is m_is = rw (m_is, f_is) (part w (by_parens k d l) (some_awaited w))

whole_read : {all : List Token} {ts : List Tree} {n i j s e : ℕ} {p : Tree} → Waits all [] ts i →
    Derives all n i j s e p → kind_at all j ≡ kind.End → IsWhole all (height p) (p ∷ ts) (j + 1)
whole_read for_all d k = is_whole d k

pub end_read : {all : List Token} {ts : List Tree} {n l s e j : ℕ} →
    Reads all (record { frames = []; trees = ts; level = l; start = s; end = e; height = n }) j →
    kind_at all j ≡ kind.End → IsWhole all n ts (j + 1)
end_read (part w d lt) k = whole_read w d k

pub braces_closed : {all : List Token} {fs : List Frame} {ts : List Tree} {i n l s e g h j : ℕ} →
    Reads all
    (record {
      frames = record { wait = wait.Clause i; start = s; height = h } ∷ fs;
      trees = ts;
      level = l;
      start = g;
      end = e;
      height = n;
    }) j → kind_at all j ≡ kind.CloseBrace → IsClosed all i n ts (j + 1)
braces_closed (part (in_clause k) d below) l = is_closed (in_braces k d l)

pub clause_begun : {all : List Token} {fs : List Frame} {ts : List Tree} {i s : ℕ} →
    kind_at all i ≡ kind.OpenBrace → s ≡ start_at all i →
    fs ≡ record { wait = wait.Clause i; start = s; height = 0 } ∷ [] → ts ≡ [] → Waits all fs ts (i + 1)
clause_begun k s_is f_is t_is = rw (f_is, t_is, s_is) (in_clause k)
