-- Bytes begin in one way, and have one list of pieces.
use Rattle.std.proofs.Common.{◌≡◌, ℕ, ◌<◌, cond, true, Option, Some, None, List, [], ◌∷◌, ◌++◌, length, take, drop, encode_utf8, refl, sym, ap, ◌∙◌, subst, arith, rules, length-append, take_at, drop_at}
use Rattle.std.proofs.lemmas.Bool.{false≢true}
use Rattle.std.proofs.lemmas.Str.{encode_same, encode_ascii}
use Rattle.cedar_text_lexer.specs.declared.tokens.Kind.{Kind}
use Rattle.cedar_text_lexer.specs.declared.tokens.Kind.TheVariants as kind
use Rattle.cedar_text_lexer.specs.Lexicon as Lexicon
use Rattle.cedar_text_lexer.specs.Lexicon.{is_blank}
use Rattle.cedar_text_lexer.proofs.Cutting.{Cut, cut_of, Reading, known, character, long, token_reading, skipped_reading}
use Rattle.cedar_text_formatter.specs.declared.fronts.Front.{Front}
use Rattle.cedar_text_formatter.specs.declared.fronts.Front.TheVariants as front
use Rattle.cedar_text_formatter.specs.Formatted.{IsFormatted}
use Rattle.cedar_text_formatter.specs.Fronts.{IsFront, IsBlank, IsComment}
use Rattle.cedar_text_formatter.specs.Fronts as Fronts
use Rattle.cedar_text_formatter.specs.Layout.{layout}
use Rattle.cedar_text_formatter.specs.Pieces.{Piece, IsPieces, is_readable}
use Rattle.cedar_text_formatter.specs.Pieces as Pieces

-- ---- with what bytes begin

pub reading_long : {k : Option Kind} {w after : List ℕ} → Reading k w after → 0 < length w
reading_long (known e l) = l
reading_long (character c e) = long c

pub same : {k j : Option Kind} {w a v b : List ℕ} → Reading k w a → Reading j v b → w ++ a ≡ v ++ b → (k ≡ j) × (w ≡ v) × (a ≡ b)
same (known {k = k} {w = w} {after = a} e l) (known {k = j} {w = v} {after = b} f m) q =
    let both : record { kind = k; len = length w } ≡ record { kind = j; len = length v } = sym e ∙ (ap cut_of q ∙ f) in
    let lens : length v ≡ length w = sym (ap (λ (x : Cut). x.len) both) in (
      ap (λ (x : Cut). x.kind) both,
      sym (take_at w a (length w) refl) ∙ (ap (take (length w)) q ∙ take_at v b (length w) lens),
      sym (drop_at w a (length w) refl) ∙ (ap (drop (length w)) q ∙ drop_at v b (length w) lens),
    )
same (known {k = k} {w = w} e l) (character d f) q =
    let none : length w ≡ 0 = ap (λ (x : Cut). x.len) (sym e ∙ (ap cut_of q ∙ f)) in
    absurd (omega (arith, none, l))
same (character c e) (known {k = j} {w = v} f m) q =
    let none : length v ≡ 0 = ap (λ (x : Cut). x.len) (sym f ∙ (ap cut_of (sym q) ∙ e)) in
    absurd (omega (arith, none, m))
same (character c {after = a} e) (character d {after = b} f) q =
    let r = encode_same c d a b q in (
      ap (λ (x : ℕ). cond (is_blank x a) None (Some kind.Unreadable)) r.0 ∙ ap (λ (x : List ℕ). cond (is_blank d x) None (Some kind.Unreadable)) r.1,
      ap encode_utf8 r.0,
      r.1,
    )

-- the kind of the token, if it is one
abbrev pub kind_of : Front → Option Kind
kind_of front.Blank = None
kind_of front.Comment = None
kind_of (front.Token k) = Some k

blank_reading : {w a : List ℕ} → IsBlank w a → Reading None w a
blank_reading (Fronts.blank c x) = skipped_reading (Lexicon.blank c x)

comment_reading : {w a : List ℕ} → IsComment w a → Reading None w a
comment_reading (Fronts.comment all stops) = skipped_reading (Lexicon.comment all stops)

pub front_reading : (f : Front) (w a : List ℕ) → IsFront f w a → Reading (kind_of f) w a
front_reading front.Blank w a h = blank_reading h
front_reading front.Comment w a h = comment_reading h
front_reading (front.Token k) w a h = token_reading h.1

-- a blank is no slash
no_slash : (c : ℕ) (a bs : List ℕ) → is_blank c a ≡ true → encode_utf8 c ++ a ≡ 47 ∷ bs → ⊥
no_slash c a bs h e =
    let slash : encode_utf8 c ++ a ≡ encode_utf8 47 ++ bs = e ∙ sym (ap (λ (x : List ℕ). x ++ bs) (encode_ascii 47 (omega arith))) in
    let is : c ≡ 47 = (encode_same c 47 a bs slash).0 in
    false≢true (subst (λ (x : ℕ). is_blank x a ≡ true) is h)

pub no_comment : {w a v b : List ℕ} → IsBlank w a → IsComment v b → w ++ a ≡ v ++ b → ⊥
no_comment {a = a} {b = b} (Fronts.blank c x) (Fronts.comment {bs} all stops) e = no_slash c a (47 ∷ (bs ++ b)) x e

same_kind : (f g : Front) (w a v b : List ℕ) → IsFront f w a → IsFront g v b → w ++ a ≡ v ++ b → kind_of f ≡ kind_of g → f ≡ g
same_kind front.Blank front.Blank w a v b h i e k = refl
same_kind front.Blank front.Comment w a v b h i e k = absurd (no_comment h i e)
same_kind front.Blank (front.Token j) w a v b h i e k = absurd (search rules)
same_kind front.Comment front.Blank w a v b h i e k = absurd (no_comment i h (sym e))
same_kind front.Comment front.Comment w a v b h i e k = refl
same_kind front.Comment (front.Token j) w a v b h i e k = absurd (search rules)
same_kind (front.Token k) front.Blank w a v b h i e q = absurd (search rules)
same_kind (front.Token k) front.Comment w a v b h i e q = absurd (search rules)
same_kind (front.Token k) (front.Token j) w a v b h i e q = let kinds : k ≡ j = cc in ap (λ (x : Kind). front.Token x) kinds

pub same_front : (f g : Front) (w a v b : List ℕ) → IsFront f w a → IsFront g v b → w ++ a ≡ v ++ b → (f ≡ g) × (w ≡ v) × (a ≡ b)
same_front f g w a v b h i e =
    let r = same (front_reading f w a h) (front_reading g v b i) e in
    (same_kind f g w a v b h i e r.0, r.1, r.2)

-- ---- pieces

-- the pieces with this one before them, if it is one
abbrev pub with_front : Front → List ℕ → List Piece → List Piece
with_front front.Blank w ps = ps
with_front front.Comment w ps = Pieces.comment w ∷ ps
with_front (front.Token k) w ps = Pieces.token k w ∷ ps

blank_first : {w a : List ℕ} (ps : List Piece) → IsBlank w a → IsPieces a ps → IsPieces (w ++ a) ps
blank_first ps (Fronts.blank c x) p = Pieces.skips c x p

comment_first : {w a : List ℕ} (ps : List Piece) → IsComment w a → IsPieces a ps → IsPieces (w ++ a) (Pieces.comment w ∷ ps)
comment_first ps (Fronts.comment all stops) p = Pieces.notes all stops p

pub front_first : (f : Front) (w a : List ℕ) (ps : List Piece) → IsFront f w a → IsPieces a ps → IsPieces (w ++ a) (with_front f w ps)
front_first front.Blank w a ps h p = blank_first ps h p
front_first front.Comment w a ps h p = comment_first ps h p
front_first (front.Token k) w a ps h p = Pieces.has h.0 h.1 p

data View (bs : List ℕ) (ps : List Piece) : Type 0 where
  ended : bs ≡ [] → ps ≡ [] → View bs ps
  begun : (f : Front) (w a : List ℕ) (more : List Piece) → w ++ a ≡ bs → IsFront f w a → IsPieces a more → ps ≡ with_front f w more → View bs ps

view : {bs : List ℕ} {ps : List Piece} → IsPieces bs ps → View bs ps
view Pieces.end = ended refl refl
view (Pieces.skips c {after} {pieces} x p) = begun front.Blank (encode_utf8 c) after pieces refl (Fronts.blank c x) p refl
view (Pieces.notes {bs} {after} {pieces} all stops p) = begun front.Comment (47 ∷ 47 ∷ bs) after pieces refl (Fronts.comment all stops) p refl
view (Pieces.has {k} {word} {after} {pieces} r t p) = begun (front.Token k) word after pieces refl (r, t) p refl

not_empty : (f : Front) (w a : List ℕ) → IsFront f w a → w ++ a ≡ [] → ⊥
not_empty f w a h e = omega (arith, reading_long (front_reading f w a h), length-append w a, ap length e)

unique_end : (qs : List Piece) → View [] qs → [] ≡ qs
unique_end qs (ended p q) = sym q
unique_end qs (begun f w a more e h p q) = absurd (not_empty f w a h e)

unique_front : (f : Front) (w a : List ℕ) (ps qs : List Piece) → IsFront f w a → ((rs : List Piece) → IsPieces a rs → ps ≡ rs) → View (w ++ a) qs → with_front f w ps ≡ qs
unique_front f w a ps qs h rest (ended p q) = absurd (not_empty f w a h p)
unique_front f w a ps qs h rest (begun g v b more e i p q) =
    let r = same_front f g w a v b h i (sym e) in
    let behind : ps ≡ more = rest more (subst (λ (x : List ℕ). IsPieces x more) (sym r.2) p) in
    ap (λ (x : Front). with_front x w ps) r.0 ∙ (ap (λ (x : List ℕ). with_front g x ps) r.1 ∙ (ap (λ (x : List Piece). with_front g v x) behind ∙ sym q))

pub unique : {bs : List ℕ} {ps : List Piece} → IsPieces bs ps → (qs : List Piece) → IsPieces bs qs → ps ≡ qs
unique Pieces.end qs v = unique_end qs (view v)
unique (Pieces.skips c {after} {pieces} x p) qs v = unique_front front.Blank (encode_utf8 c) after pieces qs (Fronts.blank c x) (λ rs. unique p rs) (view v)
unique (Pieces.notes {bs} {after} {pieces} all stops p) qs v = unique_front front.Comment (47 ∷ 47 ∷ bs) after pieces qs (Fronts.comment all stops) (λ rs. unique p rs) (view v)
unique (Pieces.has {k} {word} {after} {pieces} r t p) qs v = unique_front (front.Token k) word after pieces qs (r, t) (λ rs. unique p rs) (view v)

-- ---- what is laid out once stays as it is

pub again : (text a b : List ℕ) → IsFormatted text a → IsFormatted a b → a ≡ b
again text a b f g = f.laid_out ∙ (ap layout (unique f.are g.pieces g.were) ∙ sym g.laid_out)

-- and there is one layout
pub one_layout : (text a b : List ℕ) → IsFormatted text a → IsFormatted text b → a ≡ b
one_layout text a b f g = f.laid_out ∙ (ap layout (unique f.were g.pieces g.were) ∙ sym g.laid_out)
