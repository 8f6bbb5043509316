-- What a text or a pattern stands for is determined, and nothing that is refused stands for anything.
use Rattle.std.proofs.Common.{◌≡◌, ◌≢◌, ℕ, ◌+◌, ◌<◌, Bool, true, false, Option, Some, None, List, [], ◌∷◌, ◌++◌, length, drop, encode_utf8, refl, sym, ap, ◌∙◌, subst, arith, rules, length-append}
use Rattle.std.proofs.lemmas.Bool.{false≢true}
use Rattle.std.proofs.lemmas.Str.{encode_same, char_from_byte, length-encode, len_utf8_bounds}
use Rattle.cedar_text_lexer.specs.declared.escapes.Escape.{Escape}
use Rattle.cedar_text_lexer.specs.declared.escapes.Piece.{Piece}
use Rattle.cedar_text_lexer.specs.declared.values.PatternPart.{PatternPart}
use Rattle.cedar_text_lexer.specs.Escapes.{escape_in}
use Rattle.cedar_text_lexer.specs.Scanning.{begins_bare_return}
use Rattle.cedar_text_lexer.specs.Values.{IsPiece, itself, escape, IsNoPiece, unknown, alone, bare_return, IsTextOf, nothing, next, IsPatternOf, no_part, next_part, part_of, IsRefused, here, later}

long : (c : ℕ) → 0 < length (encode_utf8 c)
long c = omega (arith, length-encode c, (len_utf8_bounds c).0)

-- a character that is written as a backslash is one
is_backslash : (c : ℕ) (rest bs : List ℕ) → encode_utf8 c ++ rest ≡ 92 ∷ bs → c ≡ 92
is_backslash c rest bs e = char_from_byte (92 ∷ bs) rest c (sym e) (omega arith) (omega arith)

behind : (xs bs : List ℕ) → 92 ∷ xs ≡ 92 ∷ bs → xs ≡ bs
behind xs bs e = ap (drop 1) e

-- a piece, with equations in place of its index
data Seen (in_pattern : Bool) (bs : List ℕ) (p : Piece) : Type 0 where
  stands : (c : ℕ) (rest : List ℕ) → encode_utf8 c ++ rest ≡ bs → c ≢ 92 → begins_bare_return bs ≡ false → p ≡ record { char = c; is_escaped = false; len = length (encode_utf8 c) } → Seen in_pattern bs p
  escapes : (rest : List ℕ) (e : Escape) → 92 ∷ rest ≡ bs → escape_in in_pattern rest ≡ Some e → p ≡ record { char = e.char; is_escaped = true; len = e.len + 1 } → Seen in_pattern bs p

seen : {in_pattern : Bool} {bs : List ℕ} {p : Piece} → IsPiece in_pattern bs p → Seen in_pattern bs p
seen (itself c bs n b) = stands c bs refl n b refl
seen (escape {bs = bs} {e = e} h) = escapes bs e refl h refl

same : {in_pattern : Bool} {bs : List ℕ} {p q : Piece} → Seen in_pattern bs p → Seen in_pattern bs q → p ≡ q
same (stands c rest e n b x) (stands d more f m w y) =
    let chars = (encode_same c d rest more (e ∙ sym f)).0 in
    x ∙ (ap (λ (z : ℕ). let r : Piece = record { char = z; is_escaped = false; len = length (encode_utf8 z) } in r) chars ∙ sym y)
same (stands c rest e n b x) (escapes more g f m y) = absurd (n (is_backslash c rest more (e ∙ sym f)))
same (escapes rest g e n x) (stands d more f m w y) = absurd (m (is_backslash d more rest (f ∙ sym e)))
same {in_pattern} (escapes rest g e n x) (escapes more h f m y) =
    let one : Some g ≡ Some h = sym n ∙ (ap (escape_in in_pattern) (behind rest more (e ∙ sym f)) ∙ m) in
    let escapes_same : g ≡ h = cc in
    x ∙ (ap (λ (z : Escape). let r : Piece = record { char = z.char; is_escaped = true; len = z.len + 1 } in r) escapes_same ∙ sym y)

seen_some : {in_pattern : Bool} {bs : List ℕ} {p : Piece} → Seen in_pattern bs p → bs ≡ [] → ⊥
seen_some (stands c rest e n b x) z = omega (arith, long c, length-append (encode_utf8 c) rest, ap length (e ∙ z))
seen_some (escapes rest g e n x) z = omega (arith, ap length (e ∙ z))

none_some : (e : Escape) (o : Option Escape) → o ≡ Some e → o ≡ None → ⊥
none_some e None h k = search rules
none_some e (Some f) h k = search rules

-- what is no piece is none
apart : {in_pattern : Bool} {bs : List ℕ} {m : ℕ} {p : Piece} → IsNoPiece in_pattern bs m → Seen in_pattern bs p → ⊥
apart {in_pattern} (unknown c bs h) (stands d more f m w y) = m (is_backslash d more (encode_utf8 c ++ bs) f)
apart {in_pattern} (unknown c bs h) (escapes more g f m y) = none_some g (escape_in in_pattern more) m (ap (escape_in in_pattern) (behind more (encode_utf8 c ++ bs) f) ∙ h)
apart {in_pattern} (alone h) (stands d more f m w y) = m (is_backslash d more [] f)
apart {in_pattern} (alone h) (escapes more g f m y) = none_some g (escape_in in_pattern more) m (ap (escape_in in_pattern) (behind more [] f) ∙ h)
apart (bare_return h) (stands d more f m w y) = false≢true (sym w ∙ h)
apart (bare_return h) (escapes more g f m y) = false≢true (ap begins_bare_return f ∙ h)

-- ---- texts

data TextView (bs value : List ℕ) : Type 0 where
  is_nothing : bs ≡ [] → value ≡ [] → TextView bs value
  is_next : (p : Piece) (more : List ℕ) → Seen false bs p → IsTextOf (drop p.len bs) more → value ≡ encode_utf8 p.char ++ more → TextView bs value

text_view : {bs value : List ℕ} → IsTextOf bs value → TextView bs value
text_view nothing = is_nothing refl refl
text_view (next {value = value} {p = p} h r) = is_next p value (seen h) r refl

text_next : (bs value other : List ℕ) (p : Piece) → Seen false bs p → ((v : List ℕ) → IsTextOf (drop p.len bs) v → value ≡ v) → TextView bs other → encode_utf8 p.char ++ value ≡ other
text_next bs value other p s rest (is_nothing z y) = absurd (seen_some s z)
text_next bs value other p s rest (is_next q more t r y) =
    let pieces : p ≡ q = same s t in
    let ends : value ≡ more = rest more (subst (λ (z : Piece). IsTextOf (drop z.len bs) more) (sym pieces) r) in
    ap (λ (z : List ℕ). encode_utf8 p.char ++ z) ends ∙ (ap (λ (z : Piece). encode_utf8 z.char ++ more) pieces ∙ sym y)

text_nothing : (other : List ℕ) → TextView [] other → [] ≡ other
text_nothing other (is_nothing z y) = sym y
text_nothing other (is_next q more t r y) = absurd (seen_some t refl)

pub text_once : {bs value : List ℕ} → IsTextOf bs value → (other : List ℕ) → IsTextOf bs other → value ≡ other
text_once nothing other t = text_nothing other (text_view t)
text_once (next {bs = bs} {value = value} {p = p} h r) other t = text_next bs value other p (seen h) (λ v. text_once r v) (text_view t)

text_later : (bs value : List ℕ) (p : Piece) → Seen false bs p → ((v : List ℕ) → IsTextOf (drop p.len bs) v → ⊥) → TextView bs value → ⊥
text_later bs value p s rest (is_nothing z y) = seen_some s z
text_later bs value p s rest (is_next q more t r y) = rest more (subst (λ (z : Piece). IsTextOf (drop z.len bs) more) (sym (same s t)) r)

text_here : {bs value : List ℕ} {m : ℕ} → IsNoPiece false bs m → TextView bs value → ⊥
text_here n (is_next q more t r y) = apart n t
text_here (unknown c bs h) (is_nothing z y) = omega (arith, ap length z)
text_here (alone h) (is_nothing z y) = omega (arith, ap length z)
text_here (bare_return h) (is_nothing z y) = false≢true (sym (ap begins_bare_return z) ∙ h)

pub text_refused : {bs : List ℕ} {n m : ℕ} → IsRefused false bs n m → (value : List ℕ) → IsTextOf bs value → ⊥
text_refused (here h) value t = text_here h (text_view t)
text_refused (later {bs = bs} {p = p} h r) value t = text_later bs value p (seen h) (λ v. text_refused r v) (text_view t)

-- ---- patterns

data PatternView (bs : List ℕ) (parts : List PatternPart) : Type 0 where
  is_no_part : bs ≡ [] → parts ≡ [] → PatternView bs parts
  is_next_part : (p : Piece) (more : List PatternPart) → Seen true bs p → IsPatternOf (drop p.len bs) more → parts ≡ part_of p ∷ more → PatternView bs parts

pattern_view : {bs : List ℕ} {parts : List PatternPart} → IsPatternOf bs parts → PatternView bs parts
pattern_view no_part = is_no_part refl refl
pattern_view (next_part {parts = parts} {p = p} h r) = is_next_part p parts (seen h) r refl

pattern_next : (bs : List ℕ) (parts other : List PatternPart) (p : Piece) → Seen true bs p → ((v : List PatternPart) → IsPatternOf (drop p.len bs) v → parts ≡ v) → PatternView bs other → part_of p ∷ parts ≡ other
pattern_next bs parts other p s rest (is_no_part z y) = absurd (seen_some s z)
pattern_next bs parts other p s rest (is_next_part q more t r y) =
    let pieces : p ≡ q = same s t in
    let ends : parts ≡ more = rest more (subst (λ (z : Piece). IsPatternOf (drop z.len bs) more) (sym pieces) r) in
    ap (λ (z : List PatternPart). part_of p ∷ z) ends ∙ (ap (λ (z : Piece). part_of z ∷ more) pieces ∙ sym y)

pattern_nothing : (other : List PatternPart) → PatternView [] other → [] ≡ other
pattern_nothing other (is_no_part z y) = sym y
pattern_nothing other (is_next_part q more t r y) = absurd (seen_some t refl)

pub pattern_once : {bs : List ℕ} {parts : List PatternPart} → IsPatternOf bs parts → (other : List PatternPart) → IsPatternOf bs other → parts ≡ other
pattern_once no_part other t = pattern_nothing other (pattern_view t)
pattern_once (next_part {bs = bs} {parts = parts} {p = p} h r) other t = pattern_next bs parts other p (seen h) (λ v. pattern_once r v) (pattern_view t)

pattern_later : (bs : List ℕ) (parts : List PatternPart) (p : Piece) → Seen true bs p → ((v : List PatternPart) → IsPatternOf (drop p.len bs) v → ⊥) → PatternView bs parts → ⊥
pattern_later bs parts p s rest (is_no_part z y) = seen_some s z
pattern_later bs parts p s rest (is_next_part q more t r y) = rest more (subst (λ (z : Piece). IsPatternOf (drop z.len bs) more) (sym (same s t)) r)

pattern_here : {bs : List ℕ} {parts : List PatternPart} {m : ℕ} → IsNoPiece true bs m → PatternView bs parts → ⊥
pattern_here n (is_next_part q more t r y) = apart n t
pattern_here (unknown c bs h) (is_no_part z y) = omega (arith, ap length z)
pattern_here (alone h) (is_no_part z y) = omega (arith, ap length z)
pattern_here (bare_return h) (is_no_part z y) = false≢true (sym (ap begins_bare_return z) ∙ h)

pub pattern_refused : {bs : List ℕ} {n m : ℕ} → IsRefused true bs n m → (parts : List PatternPart) → IsPatternOf bs parts → ⊥
pattern_refused (here h) parts t = pattern_here h (pattern_view t)
pattern_refused (later {bs = bs} {p = p} h r) parts t = pattern_later bs parts p (seen h) (λ v. pattern_refused r v) (pattern_view t)
