-- What a token more makes of where the machine stands: parts in brackets.
use Rattle.std.proofs.Common.{◌≡◌, ℕ, ◌+◌, ◌<◌, ◌≤◌, List, ◌∷◌, refl, ap, arith, Bool, true, false, true≢false}
use Rattle.std.proofs.Common.{add-one}
use Rattle.std.proofs.Math.Nat.{zero-max}
use Prim.Native.Nat.{max}
use Rattle.cedar_text_lexer.specs.Kinds.{is_identifier}
use Rattle.cedar_text_lexer.specs.declared.tokens.Kind.TheVariants as kind
use Rattle.cedar_text_lexer.specs.declared.tokens.Token.{Token}
use Rattle.cedar_text_syntax.specs.declared.steps.Bracketed.{Bracketed}
use Rattle.cedar_text_syntax.specs.declared.steps.Bracketed.TheVariants.{Set, Record, Call, Method}
use Rattle.cedar_text_syntax.specs.declared.steps.What.TheVariants as what
use Rattle.cedar_text_syntax.specs.declared.frames.Frame.{Frame}
use Rattle.cedar_text_syntax.specs.declared.frames.Wait.TheVariants as wait
use Rattle.cedar_text_lexer.specs.Sequence.{kind_at, start_at, end_at}
use Rattle.cedar_text_syntax.specs.Trees.{Tree, Trees, none, also, height, count, stacked, gathered, left_below, made}
use Rattle.cedar_text_syntax.specs.Grammar.{is_key, closes, takes_expressions, IsPath, by_brackets}
use Rattle.cedar_text_syntax.specs.Grammar.{opens_set, opens_record, opens_call, opens_method, nothing, comma, empty}
use Rattle.cedar_text_syntax.specs.Grammar.{filled, item, keyed}
use Rattle.cedar_text_syntax.specs.Reading.{Look, Waits, for_item, behind_key, InBrackets, brackets, HasOpened, opened}
use Rattle.cedar_text_syntax.specs.Reading.{AwaitsKey, for_key, Reads, part, Behind, behind, HasItem, has_item}
use Rattle.cedar_text_syntax.proofs.Growing.{grows, opens_count, begins_count, item_grows}
use Rattle.cedar_text_syntax.proofs.Turns.{some_awaited}

pub gathered-stacked : (ps : Trees) (ts : List Tree) → gathered (count ps) (stacked ps ts) ≡ ps
gathered-stacked none ts = refl
gathered-stacked (also ps p) ts = ap (λ (qs : Trees). also qs p) (gathered-stacked ps ts)

pub left_below-stacked : (ps : Trees) (ts : List Tree) → left_below (count ps) (stacked ps ts) ≡ ts
left_below-stacked none ts = refl
left_below-stacked (also ps p) ts = left_below-stacked ps ts

-- ---- what opens

pub set_opened : {all : List Token} {fs gs : List Frame} {ts us : List Tree} {i s : ℕ} → Waits all fs ts i →
    kind_at all i ≡ kind.OpenBracket → s ≡ start_at all i →
    gs ≡ record { wait = wait.Item Set 0; start = s; height = 0 } ∷ fs → us ≡ ts → HasOpened all true gs us (i + 1)
set_opened w k s_is g_is u_is = rw (g_is, u_is, s_is) (opened w (opens_set k))

pub record_opened : {all : List Token} {fs gs : List Frame} {ts us : List Tree} {i s : ℕ} → Waits all fs ts i →
    kind_at all i ≡ kind.OpenBrace → s ≡ start_at all i →
    gs ≡ record { wait = wait.Item Record 0; start = s; height = 0 } ∷ fs → us ≡ ts →
    HasOpened all false gs us (i + 1)
record_opened w k s_is g_is u_is = rw (g_is, u_is, s_is) (opened w (opens_record k))

pub call_opened : {all : List Token} {fs gs : List Frame} {ts us : List Tree} {from i s e : ℕ} →
    Waits all fs ts from → IsPath all from i s e → kind_at all i ≡ kind.OpenParen →
    gs ≡ record { wait = wait.Item (Call from i) 0; start = s; height = 0 } ∷ fs → us ≡ ts →
    HasOpened all true gs us (i + 1)
call_opened w h k g_is u_is = rw (g_is, u_is) (opened w (opens_call h k))

pub method_opened : {all : List Token} {gs : List Frame} {us : List Tree} {at i : ℕ} {l : Look} →
    Behind all kind.Dot l at → l.level ≤ 1 → is_identifier (kind_at all at) ≡ true → i ≡ at + 1 →
    kind_at all i ≡ kind.OpenParen →
    gs ≡ record { wait = wait.Item (Method at) 1; start = l.start; height = l.height } ∷ l.frames → us ≡ l.trees →
    HasOpened all true gs us (i + 1)
method_opened (behind (part {p = p} w d lt) b) le k i_is o g_is u_is =
    rw (g_is, u_is, i_is, ← zero-max (height p)) (opened w (opens_method d le b k (rw i_is at o)))

-- ---- the first part, or none

pub empty_closed :
    {all : List Token} {b : Bool} {k : Bracketed} {fs : List Frame} {ts : List Tree} {n i s e h : ℕ} {m : Look} →
    HasOpened all b (record { wait = wait.Item k n; start = s; height = h } ∷ fs) ts i →
    closes k (kind_at all i) ≡ true → e ≡ end_at all i → m ≡ record
    { frames = fs; trees = made (what.Bracketed k n) s e ts; level = 1; start = s; end = e; height = h + 1 } →
    Reads all m (i + 1)
empty_closed (opened {ts = us} {ps = ps} w o) c e_is m_is =
    rw (m_is, e_is, gathered-stacked ps us, left_below-stacked ps us)
    (part w (by_brackets o empty c) (some_awaited w))

first_awaited : {all : List Token} {b : Bool} {fs : List Frame} {ts : List Tree} {i : ℕ} → HasOpened all b fs ts i →
    b ≡ true → Waits all fs ts i
first_awaited (opened w o) t = for_item (brackets w o nothing) t

pub first_waits : {all : List Token} {fs : List Frame} {ts : List Tree} {i : ℕ} → HasOpened all true fs ts i →
    Waits all fs ts i
first_waits h = first_awaited h refl

key_of : {all : List Token} (k : Bracketed) {n s h i : ℕ} {fs : List Frame} {ts : List Tree} →
    takes_expressions k ≡ false → InBrackets all k n s h fs ts i →
    AwaitsKey all (record { wait = wait.Item k n; start = s; height = h } ∷ fs) ts i
key_of Set e b = absurd (true≢false e)
key_of Record e b = for_key b
key_of (Call f t) e b = absurd (true≢false e)
key_of (Method at) e b = absurd (true≢false e)

first_key_awaited : {all : List Token} {b : Bool} {fs : List Frame} {ts : List Tree} {i : ℕ} →
    HasOpened all b fs ts i → b ≡ false → AwaitsKey all fs ts i
first_key_awaited (opened {k = k} w o) t = key_of k t (brackets w o nothing)

pub first_key_awaits : {all : List Token} {fs : List Frame} {ts : List Tree} {i : ℕ} → HasOpened all false fs ts i →
    AwaitsKey all fs ts i
first_key_awaits h = first_key_awaited h refl

-- ---- keys and values

pub value_waits : {all : List Token} {k : Bracketed} {fs gs : List Frame} {ts us : List Tree} {n at i s h : ℕ} →
    AwaitsKey all (record { wait = wait.Item k n; start = s; height = h } ∷ fs) ts at →
    is_key (kind_at all at) ≡ true → i ≡ at + 1 → kind_at all i ≡ kind.Colon →
    gs ≡ record { wait = wait.Field at n; start = s; height = h } ∷ fs → us ≡ ts → Waits all gs us (i + 1)
value_waits (for_key b) k i_is c g_is u_is = rw (g_is, u_is, i_is) (behind_key b k (rw i_is at c))

pub field_at_below : {all : List Token} {fs : List Frame} {ts : List Tree} {at n l s b e h g j : ℕ} → Reads all
    (record {
      frames = record { wait = wait.Field at n; start = s; height = h } ∷ fs;
      trees = ts;
      level = l;
      start = b;
      end = e;
      height = g;
    }) j → at < j
field_at_below (part (behind_key b k c) d lt) = omega (arith, grows d)

pub field_read : {all : List Token} {fs : List Frame} {ts : List Tree} {at n l s b e h g j x : ℕ} {m : Look} → Reads
    all
    (record {
      frames = record { wait = wait.Field at n; start = s; height = h } ∷ fs;
      trees = ts;
      level = l;
      start = b;
      end = e;
      height = g;
    }) j → x ≡ start_at all at →
    m ≡ record { frames = fs; trees = made (what.Field at) x e ts; level = 9; start = x; end = e; height = g + 0 } →
    HasItem all Record n s h m.frames m.trees m.height j
field_read (part {p = p} (behind_key b k c) d lt) x_is m_is =
    let same : height p + 0 ≡ height p = omega arith in
    rw (m_is, x_is, same) (has_item b (keyed k c d))

-- ---- parts

pub item_read : {all : List Token} {k : Bracketed} {fs : List Frame} {ts : List Tree} {n l s b e h g j : ℕ} → Reads
    all
    (record {
      frames = record { wait = wait.Item k n; start = s; height = h } ∷ fs;
      trees = ts;
      level = l;
      start = b;
      end = e;
      height = g;
    }) j → HasItem all k n s h fs ts g j
item_read (part (for_item b t) d lt) = has_item b (item t d)

pub item_count : {all : List Token} {k : Bracketed} {fs : List Frame} {ts : List Tree} {n s h g j : ℕ} →
    HasItem all k n s h fs ts g j → n + 1 ≤ j
item_count (has_item (brackets w o b) f) = omega (arith, opens_count o, begins_count b, item_grows f)

comma_read : {all : List Token} {k : Bracketed} {fs : List Frame} {ts : List Tree} {n s h g j : ℕ} →
    HasItem all k n s h fs ts g j → kind_at all j ≡ kind.Comma → InBrackets all k (n + 1) s (max h g) fs ts (j + 1)
comma_read (has_item (brackets {qs = qs} w o b) f) c = rw (add-one (count qs)) (brackets w o (comma b f c))

pub comma_waits : {all : List Token} {k : Bracketed} {fs gs : List Frame} {ts us : List Tree} {n s h g j x : ℕ} →
    takes_expressions k ≡ true → HasItem all k n s h fs ts g j → kind_at all j ≡ kind.Comma → x ≡ max h g →
    gs ≡ record { wait = wait.Item k (n + 1); start = s; height = x } ∷ fs → us ≡ ts → Waits all gs us (j + 1)
comma_waits t f c x_is g_is u_is = rw (g_is, u_is, x_is) (for_item (comma_read f c) t)

pub comma_awaits : {all : List Token} {fs gs : List Frame} {ts us : List Tree} {n s h g j x : ℕ} →
    HasItem all Record n s h fs ts g j → kind_at all j ≡ kind.Comma → x ≡ max h g →
    gs ≡ record { wait = wait.Item Record (n + 1); start = s; height = x } ∷ fs → us ≡ ts →
    AwaitsKey all gs us (j + 1)
comma_awaits f c x_is g_is u_is = rw (g_is, u_is, x_is) (for_key (comma_read f c))

pub list_closed :
    {all : List Token} {k : Bracketed} {fs : List Frame} {ts : List Tree} {n s e h g j x : ℕ} {m : Look} →
    HasItem all k n s h fs ts g j → closes k (kind_at all j) ≡ true → e ≡ end_at all j → x ≡ max h g → m ≡ record
    { frames = fs; trees = made (what.Bracketed k (n + 1)) s e ts; level = 1; start = s; end = e; height = x + 1 } →
    Reads all m (j + 1)
list_closed (has_item (brackets {ts = ts} {qs = qs} w o b) f) c e_is x_is m_is =
    rw (m_is, e_is, x_is, add-one (count qs), gathered-stacked qs ts, left_below-stacked qs ts)
    (part w (by_brackets o (filled b f) c) (some_awaited w))
