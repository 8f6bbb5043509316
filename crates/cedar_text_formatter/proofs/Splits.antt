-- What a text begins with, by its tokens.
use Rattle.std.proofs.Common.{◌≡◌, ◌≢◌, ℕ, zero, suc, ◌+◌, ◌-◌, ◌<◌, ◌≤◌, true, false, ◌==◌, List, [], ◌∷◌, ◌++◌, length, take, drop, get_or, encode_utf8, refl, sym, ap, ◌∙◌, arith, tests, take_at, drop_at, take-append-drop, length-take-le, length-append, IsUtf8, IsCharBoundary}
use Rattle.std.specs.List.{prefix_len}
use Rattle.std.proofs.lemmas.Bool.{and_parts, false≢true}
use Rattle.std.proofs.lemmas.List.{get_or_append_left, get_or_at}
use Rattle.std.proofs.lemmas.Str.{encode_same, IsCharBoundary-after_ascii}
use Rattle.cedar_text_lexer.specs.declared.tokens.Kind.{Kind}
use Rattle.cedar_text_lexer.specs.declared.tokens.Token.{Token}
use Rattle.cedar_text_lexer.specs.Lexicon.{IsToken, IsSkipped}
use Rattle.cedar_text_lexer.specs.Lexicon as Lexicon
use Rattle.cedar_text_lexer.specs.Scanning.{begins_comment, is_line_byte}
use Rattle.cedar_text_lexer.specs.Sequence.{token_at, start_at, kind_at, end_at}
use Rattle.cedar_text_lexer.specs.Tokens.{IsTokens, placed}
use Rattle.cedar_text_lexer.specs.Tokens as Tokens
use Rattle.cedar_text_lexer.proofs.Cutting.{long, token_reading, skipped_reading}
use Rattle.cedar_text_lexer.specs.Words.{is_word_byte}
use Rattle.cedar_text_lexer.proofs.Fronts.{comment_cut, comment_boundary, character_boundary, word_low}
use Rattle.cedar_text_lexer.proofs.Lows.{double_boundary, single_boundary}
use Rattle.cedar_text_lexer.proofs.Runs.{taken, stopped}
use Rattle.cedar_text_formatter.specs.Fronts.{IsBlank, IsComment, BeginsWithChar}
use Rattle.cedar_text_formatter.specs.Fronts as Fronts
use Rattle.cedar_text_formatter.specs.Pieces.{is_readable, are_readable}
use Rattle.cedar_text_formatter.proofs.Determined.{same, reading_long}
use Rattle.cedar_text_formatter.proofs.Kept.{last_passes, starts_goes_on, digit_goes_on, digits_go_on}

-- ---- the first token

head_at : (t : Token) (more : List Token) → token_at (t ∷ more) 0 ≡ t
unfolding token_at
head_at t more = refl

-- it starts here or later
starts : {at : ℕ} {bs : List ℕ} {ts : List Token} → IsTokens at bs ts → at ≤ start_at ts 0
unfolding token_at
starts Tokens.end = omega arith
starts (Tokens.skips s r) = omega (arith, starts r)
starts (Tokens.has t r) = omega arith

skipped_long : {w a : List ℕ} → IsSkipped w a → 0 < length w
skipped_long s = reading_long (skipped_reading s)

-- ---- a token

-- an ASCII byte stands last
ends_low : (w a : List ℕ) (i : ℕ) → length w ≡ i + 1 → get_or w i 0 < 128 → IsUtf8 (w ++ a) → IsCharBoundary (w ++ a) (length w)
ends_low w a i e low u =
    let same : get_or (w ++ a) i 0 ≡ get_or w i 0 = get_or_append_left w a 0 i (omega (arith, e)) in
    rw e (IsCharBoundary-after_ascii (w ++ a) i u (omega (arith, length-append w a, e)) (omega (arith, same, low)))

-- a text may be cut behind a token
token_boundary : {k : Kind} {w a : List ℕ} → is_readable k ≡ true → IsToken k w a → IsUtf8 (w ++ a) → IsCharBoundary (w ++ a) (length w)
token_boundary {a = a} r (Lexicon.word {b} {bs} h) u = ends_low (b ∷ bs) a (length bs) (omega arith) (word_low _ (last_passes is_word_byte b bs (starts_goes_on b h.starts) h.all)) u
token_boundary {a = a} r (Lexicon.slot {b} {bs} h) u = ends_low (63 ∷ b ∷ bs) a (suc (length bs)) (omega arith) (word_low _ (last_passes is_word_byte b bs (starts_goes_on b h.starts) h.all)) u
token_boundary {a = a} r (Lexicon.number {b} {bs} h) u = ends_low (b ∷ bs) a (length bs) (omega arith) (word_low _ (last_passes is_word_byte b bs (digit_goes_on b h.starts) (digits_go_on bs h.all))) u
token_boundary {a = a} r (Lexicon.text {bs} q) u =
    let last : get_or (34 ∷ (bs ++ 34 ∷ [])) (suc (length bs)) 0 ≡ 34 = get_or_at (34 ∷ bs) 34 [] 0 (suc (length bs)) refl in
    ends_low (34 ∷ (bs ++ 34 ∷ [])) a (suc (length bs)) (omega (arith, length-append bs (34 ∷ []))) (omega (arith, last)) u
token_boundary r (Lexicon.unclosed q) u = absurd (false≢true r)
token_boundary {a = a} r (Lexicon.double {k} {a = x} {b = y} h) u = double_boundary (x ∷ y ∷ a) k u h
token_boundary {a = a} r (Lexicon.single {k} {a = x} h n) u = single_boundary (x ∷ a) k u h
token_boundary r (Lexicon.unreadable c x y) u = absurd (false≢true r)

-- what is known where a token of this kind stands first, so many bytes long
pub record TokenFront (at : ℕ) (bs : List ℕ) (ts : List Token) (n : ℕ) : Type 0 where
  pub some : 0 < n
  pub within : IsUtf8 bs → IsCharBoundary bs n
  pub count : 1 ≤ length ts
  pub readable : is_readable (kind_at ts 0) ≡ true
  pub is : IsToken (kind_at ts 0) (take n bs) (drop n bs)
  pub tokens : IsTokens (at + n) (drop n bs) (drop 1 ts)

token_here : (at : ℕ) (k : Kind) (w a : List ℕ) (more : List Token) → IsToken k w a → IsTokens (at + length w) a more → are_readable (placed k at w ∷ more) ≡ true → (n : ℕ) → n ≡ length w → TokenFront at (w ++ a) (placed k at w ∷ more) n
unfolding token_at
token_here at k w a more t r all n e = record {
  some = omega (arith, reading_long (token_reading t), e);
  within = λ u. rw e (token_boundary (and_parts (is_readable k) (are_readable more) all).0 t u);
  count = omega arith;
  readable = (and_parts (is_readable k) (are_readable more) all).0;
  is = rw (take_at w a n (sym e), drop_at w a n (sym e)) t;
  tokens = rw (drop_at w a n (sym e), e) r;
}

pub token_front : {at : ℕ} {bs : List ℕ} {ts : List Token} → IsTokens at bs ts → 0 < length bs → are_readable ts ≡ true → start_at ts 0 ≡ at → TokenFront at bs ts (end_at ts 0 - at)
unfolding token_at
token_front Tokens.end some all here = absurd (omega arith)
token_front (Tokens.skips s r) some all here = absurd (omega (arith, starts r, skipped_long s))
token_front (Tokens.has {at} {k} {word} {after} {tokens} t r) some all here = token_here at k word after tokens t r all (at + length word - at) (omega arith)

-- ---- a comment or a blank

record Skipped (at : ℕ) (bs : List ℕ) (ts : List Token) : Type 0 where
  pub word : List ℕ
  pub after : List ℕ
  pub whole : word ++ after ≡ bs
  pub is : IsSkipped word after
  pub tokens : IsTokens (at + length word) after ts

skipped_of : {at : ℕ} {bs : List ℕ} {ts : List Token} → IsTokens at bs ts → start_at ts 0 ≢ at → Skipped at bs ts
unfolding token_at
skipped_of Tokens.end later = absurd (later refl)
skipped_of (Tokens.skips {at} {word} {after} {tokens} s r) later = record { word = word; after = after; whole = refl; is = s; tokens = r }
skipped_of (Tokens.has t r) later = absurd (later refl)

comment_is : (bs : List ℕ) (n : ℕ) → n ≡ 2 + prefix_len is_line_byte (drop 2 bs) → begins_comment bs ≡ true → IsComment (take n bs) (drop n bs)
comment_is [] n e h = absurd (false≢true h)
comment_is (a ∷ []) n e h = absurd (false≢true (and_parts (a == 47) false h).1)
comment_is (a ∷ b ∷ bs) n e h =
    let m = prefix_len is_line_byte bs in
    let long : n ≡ suc (suc m) = omega arith in
    let first : a ≡ 47 = search (tests, (and_parts (a == 47) (b == 47) h).0) in
    let second : b ≡ 47 = search (tests, (and_parts (a == 47) (b == 47) h).1) in
    rw (long, first, second) (Fronts.comment (taken is_line_byte bs) (stopped is_line_byte bs))

-- what is known where so many bytes are no token
pub record OtherFront (Is : List ℕ → List ℕ → Type 0) (at : ℕ) (bs : List ℕ) (ts : List Token) (n : ℕ) : Type 0 where
  pub within : IsCharBoundary bs n
  pub is : Is (take n bs) (drop n bs)
  pub tokens : IsTokens (at + n) (drop n bs) ts

pub comment_front : {at : ℕ} {bs : List ℕ} {ts : List Token} (n : ℕ) → IsTokens at bs ts → start_at ts 0 ≢ at → begins_comment bs ≡ true → n ≡ 2 + prefix_len is_line_byte (drop 2 bs) → OtherFront IsComment at bs ts n
comment_front {at} {bs} {ts} n t later h e =
    let s = skipped_of t later in
    let within = comment_boundary bs n e h in
    let r = same (skipped_reading (comment_cut bs n e h)) (skipped_reading s.is) (take-append-drop n bs ∙ sym s.whole) in
    let long : length s.word ≡ n = sym (ap length r.1) ∙ length-take-le n bs within.0 in
    record {
      within = within;
      is = comment_is bs n e h;
      tokens = rw (r.2, ← long) s.tokens;
    }

blank_of : {w a : List ℕ} → IsSkipped w a → begins_comment (w ++ a) ≡ false → IsBlank w a
blank_of (Lexicon.blank c x) h = Fronts.blank c x
blank_of (Lexicon.comment all stops) h = absurd (false≢true (sym h))

blank_word : {w a : List ℕ} (c : ℕ) (after : List ℕ) → IsBlank w a → w ++ a ≡ encode_utf8 c ++ after → w ≡ encode_utf8 c
blank_word {a = a} c after (Fronts.blank d x) e = ap encode_utf8 (encode_same d c a after e).0

pub blank_front : {at : ℕ} {bs : List ℕ} {ts : List Token} (n : ℕ) → IsTokens at bs ts → start_at ts 0 ≢ at → begins_comment bs ≡ false → BeginsWithChar bs n → IsUtf8 bs → OtherFront IsBlank at bs ts n
blank_front {at} {bs} {ts} n t later h b u =
    let s = skipped_of t later in
    let none : begins_comment (s.word ++ s.after) ≡ false = ap begins_comment s.whole ∙ h in
    let blank = blank_of s.is none in
    let word : s.word ≡ encode_utf8 b.c = blank_word b.c b.after blank (s.whole ∙ b.is) in
    let long : length s.word ≡ n = ap length word ∙ sym b.long in
    let front : take n bs ≡ s.word = ap (take n) (sym s.whole) ∙ take_at s.word s.after n long in
    let behind : drop n bs ≡ s.after = ap (drop n) (sym s.whole) ∙ drop_at s.word s.after n long in
    record {
      within = character_boundary bs b.after b.c n b.is b.long u;
      is = rw (front, behind) blank;
      tokens = rw (behind, ← long) s.tokens;
    }

pub first_long : {bs : List ℕ} {n : ℕ} → BeginsWithChar bs n → 0 < n
first_long b = omega (arith, b.long, long b.c)

pub readable_drop : (ts : List Token) (n : ℕ) → are_readable ts ≡ true → are_readable (drop n ts) ≡ true
readable_drop ts zero h = h
readable_drop [] (suc n) h = refl
readable_drop (t ∷ ts) (suc n) h = readable_drop ts n (and_parts (is_readable t.kind) (are_readable ts) h).1
