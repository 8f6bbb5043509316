-- What a token more makes of where the machine stands: names, attributes, `has`, `like` and `is`.
use Rattle.std.proofs.Common.{◌≡◌, ℕ, ◌+◌, ◌<◌, ◌≤◌, List, ◌∷◌, true}
use Rattle.cedar_text_lexer.specs.Kinds.{is_identifier, is_name}
use Rattle.cedar_text_lexer.specs.declared.tokens.Kind.TheVariants as kind
use Rattle.cedar_text_lexer.specs.declared.tokens.Token.{Token}
use Rattle.cedar_text_syntax.specs.declared.steps.Leaf.TheVariants as leaves
use Rattle.cedar_text_syntax.specs.declared.steps.Unary.TheVariants as unaries
use Rattle.cedar_text_syntax.specs.declared.steps.What.TheVariants as what
use Rattle.cedar_text_syntax.specs.declared.frames.Frame.{Frame}
use Rattle.cedar_text_syntax.specs.declared.frames.Wait.TheVariants as wait
use Rattle.cedar_text_syntax.specs.Levels.{awaited}
use Rattle.cedar_text_lexer.specs.Sequence.{kind_at, start_at, end_at}
use Rattle.cedar_text_syntax.specs.Trees.{Tree, leaf, made}
use Rattle.cedar_text_syntax.specs.Grammar.{IsPath, one_name, name_inside, IsDotted, one_attribute}
use Rattle.cedar_text_syntax.specs.Grammar.{attribute_inside, by_entity, by_attribute, by_index, by_has, by_has_text}
use Rattle.cedar_text_syntax.specs.Grammar.{by_like, by_is}
use Rattle.cedar_text_syntax.specs.Reading.{Look, Waits, behind_is_in, Reads, part, Behind, behind, IsRelated}
use Rattle.cedar_text_syntax.specs.Reading.{BehindColons, colons, BehindDot, dot}
use Rattle.cedar_text_syntax.proofs.Turns.{some_awaited}

-- ---- names

pub path_one : {all : List Token} {i s e : ℕ} → is_name (kind_at all i) ≡ true → s ≡ start_at all i →
    e ≡ end_at all i → IsPath all i (i + 1) s e
path_one k s_is e_is = rw (s_is, e_is) (one_name k)

pub path_more : {all : List Token} {from i s e : ℕ} → BehindColons all from i s →
    is_name (kind_at all i) ≡ true → e ≡ end_at all i → IsPath all from (i + 1) s e
path_more (colons h c) k e_is = rw e_is (name_inside h c k)

pub name_more : {all : List Token} {i k n s e f : ℕ} → kind_at all k ≡ kind.Colons → n ≡ k + 1 →
    is_name (kind_at all n) ≡ true → f ≡ end_at all n → IsPath all i k s e → IsPath all i (n + 1) s f
name_more c n_is w f_is h = rw (f_is, n_is) (name_inside h c (rw n_is at w))

pub entity_read : {all : List Token} {fs : List Frame} {ts : List Tree} {from i s e : ℕ} {m : Look} →
    Waits all fs ts from → BehindColons all from i s → kind_at all i ≡ kind.Text → e ≡ end_at all i → m ≡ record
    { frames = fs; trees = leaf (leaves.Entity from i) s e ∷ ts; level = 1; start = s; end = e; height = 1 } →
    Reads all m (i + 1)
entity_read w (colons h c) k e_is m_is = rw (m_is, e_is) (part w (by_entity h c k) (some_awaited w))

-- ---- attributes

pub attribute_read : {all : List Token} {at i e : ℕ} {l m : Look} → Behind all kind.Dot l at → l.level ≤ 1 →
    is_identifier (kind_at all at) ≡ true → i ≡ at + 1 → e ≡ end_at all at → m ≡ record {
      frames = l.frames;
      trees = made (what.Unary (unaries.Attribute at)) l.start e l.trees;
      level = 1;
      start = l.start;
      end = e;
      height = l.height + 1;
    } → Reads all m i
attribute_read (behind (part w d lt) b) le k i_is e_is m_is =
    rw (m_is, i_is, e_is) (part w (by_attribute d le b k) (some_awaited w))

pub index_read : {all : List Token} {at i e : ℕ} {l m : Look} → Behind all kind.OpenBracket l at → l.level ≤ 1 →
    kind_at all at ≡ kind.Text → i ≡ at + 1 → kind_at all i ≡ kind.CloseBracket → e ≡ end_at all i → m ≡ record {
      frames = l.frames;
      trees = made (what.Unary (unaries.Attribute at)) l.start e l.trees;
      level = 1;
      start = l.start;
      end = e;
      height = l.height + 1;
    } → Reads all m (i + 1)
index_read (behind (part w d lt) b) le k i_is c e_is m_is =
    rw (m_is, e_is, i_is) (part w (by_index d le b k (rw i_is at c)) (some_awaited w))

-- ---- `has`, `like` and `is`

pub dotted_one : {all : List Token} {i e : ℕ} → is_identifier (kind_at all i) ≡ true → e ≡ end_at all i →
    IsDotted all i (i + 1) e
dotted_one k e_is = rw e_is (one_attribute k)

pub dotted_more : {all : List Token} {from i e : ℕ} → BehindDot all from i → is_identifier (kind_at all i) ≡ true →
    e ≡ end_at all i → IsDotted all from (i + 1) e
dotted_more (dot h c) k e_is = rw e_is (attribute_inside h c k)

has_made : {all : List Token} {from i e : ℕ} {l m : Look} → Behind all kind.Has l from → l.level ≤ 4 →
    5 < awaited l.frames → IsDotted all from i e → m ≡ record {
      frames = l.frames;
      trees = made (what.Unary (unaries.Has from i)) l.start e l.trees;
      level = 5;
      start = l.start;
      end = e;
      height = l.height + 1;
    } → Reads all m i
has_made (behind (part w d lt) b) le below h m_is = rw m_is (part w (by_has d le b h) below)

pub has_read : {all : List Token} {from i e : ℕ} {l m : Look} → IsRelated all kind.Has l from →
    IsDotted all from i e → m ≡ record {
      frames = l.frames;
      trees = made (what.Unary (unaries.Has from i)) l.start e l.trees;
      level = 5;
      start = l.start;
      end = e;
      height = l.height + 1;
    } → Reads all m i
has_read r h m_is = has_made r.read r.low r.awaited_below h m_is

has_text_made : {all : List Token} {i e : ℕ} {l m : Look} → Behind all kind.Has l i → l.level ≤ 4 →
    5 < awaited l.frames → kind_at all i ≡ kind.Text → e ≡ end_at all i → m ≡ record {
      frames = l.frames;
      trees = made (what.Unary (unaries.Has i (i + 1))) l.start e l.trees;
      level = 5;
      start = l.start;
      end = e;
      height = l.height + 1;
    } → Reads all m (i + 1)
has_text_made (behind (part w d lt) b) le below k e_is m_is = rw (m_is, e_is) (part w (by_has_text d le b k) below)

pub has_text_read : {all : List Token} {i e : ℕ} {l m : Look} → IsRelated all kind.Has l i →
    kind_at all i ≡ kind.Text → e ≡ end_at all i → m ≡ record {
      frames = l.frames;
      trees = made (what.Unary (unaries.Has i (i + 1))) l.start e l.trees;
      level = 5;
      start = l.start;
      end = e;
      height = l.height + 1;
    } → Reads all m (i + 1)
has_text_read r k e_is m_is = has_text_made r.read r.low r.awaited_below k e_is m_is

like_made : {all : List Token} {i e : ℕ} {l m : Look} → Behind all kind.Like l i → l.level ≤ 4 →
    5 < awaited l.frames → kind_at all i ≡ kind.Text → e ≡ end_at all i → m ≡ record {
      frames = l.frames;
      trees = made (what.Unary (unaries.Like i)) l.start e l.trees;
      level = 5;
      start = l.start;
      end = e;
      height = l.height + 1;
    } → Reads all m (i + 1)
like_made (behind (part w d lt) b) le below k e_is m_is = rw (m_is, e_is) (part w (by_like d le b k) below)

pub like_read : {all : List Token} {i e : ℕ} {l m : Look} → IsRelated all kind.Like l i → kind_at all i ≡ kind.Text →
    e ≡ end_at all i → m ≡ record {
      frames = l.frames;
      trees = made (what.Unary (unaries.Like i)) l.start e l.trees;
      level = 5;
      start = l.start;
      end = e;
      height = l.height + 1;
    } → Reads all m (i + 1)
like_read r k e_is m_is = like_made r.read r.low r.awaited_below k e_is m_is

is_made : {all : List Token} {from i s e : ℕ} {l m : Look} → Behind all kind.Is l from → l.level ≤ 4 →
    5 < awaited l.frames → IsPath all from i s e → m ≡ record {
      frames = l.frames;
      trees = made (what.Unary (unaries.Is from i)) l.start e l.trees;
      level = 5;
      start = l.start;
      end = e;
      height = l.height + 1;
    } → Reads all m i
is_made (behind (part w d lt) b) le below h m_is = rw m_is (part w (by_is d le b h) below)

pub is_read : {all : List Token} {from i s e : ℕ} {l m : Look} → IsRelated all kind.Is l from →
    IsPath all from i s e → m ≡ record {
      frames = l.frames;
      trees = made (what.Unary (unaries.Is from i)) l.start e l.trees;
      level = 5;
      start = l.start;
      end = e;
      height = l.height + 1;
    } → Reads all m i
is_read r h m_is = is_made r.read r.low r.awaited_below h m_is

in_made : {all : List Token} {from i s e : ℕ} {l : Look} {gs : List Frame} {us : List Tree} →
    Behind all kind.Is l from → l.level ≤ 4 → 5 < awaited l.frames → IsPath all from i s e → kind_at all i ≡ kind.In →
    gs ≡ record { wait = wait.IsIn from i; start = l.start; height = l.height } ∷ l.frames → us ≡ l.trees →
    Waits all gs us (i + 1)
in_made (behind (part w d lt) b) le below h k g_is u_is = rw (g_is, u_is) (behind_is_in w d le below b h k)

pub in_read : {all : List Token} {from i s e : ℕ} {l : Look} {gs : List Frame} {us : List Tree} →
    IsRelated all kind.Is l from → IsPath all from i s e → kind_at all i ≡ kind.In →
    gs ≡ record { wait = wait.IsIn from i; start = l.start; height = l.height } ∷ l.frames → us ≡ l.trees →
    Waits all gs us (i + 1)
in_read r h k g_is u_is = in_made r.read r.low r.awaited_below h k g_is u_is
