-- The layout of pieces has these pieces.
use Rattle.std.proofs.Common.{◌≡◌, ℕ, ◌-◌, Bool, true, false, cond, not, ◌&&◌, ◌||◌, ◌==◌, Option, Some, is_some, List, [], ◌∷◌, ◌++◌, length, get_or, codes, bytes_eq, encode_utf8, refl, sym, ap, ◌∙◌, subst, arith, tests}
use Rattle.std.specs.List.{list_all}
use Rattle.std.specs.Char.{is_ascii_digit}
use Rattle.std.proofs.lemmas.Bool.{and_parts, or_parts, false≢true}
use Rattle.std.proofs.lemmas.Bool.Decides.{nat_tests}
use Rattle.std.proofs.lemmas.Str.{encode_ascii}
use Rattle.cedar_text_lexer.specs.declared.tokens.Kind.{Kind}
use Rattle.cedar_text_lexer.specs.declared.tokens.Kind.TheVariants as kind
use Rattle.cedar_text_lexer.specs.Lexicon.{IsToken, makes_operator, word, slot, number, text, unclosed, double, single, unreadable}
use Rattle.cedar_text_lexer.specs.Scanning.{begins_with, is_line_byte}
use Rattle.cedar_text_lexer.specs.Words.{starts_word, is_word_byte}
use Rattle.cedar_text_formatter.specs.declared.layout.State.{State}
use Rattle.cedar_text_formatter.specs.Layout.{line_at, make_operator, run_together, apart, is_close, begins_line, depth_of, gap_of, token_gap, comment_gap, last_of, behind_token, behind_comment, layout_from}
use Rattle.cedar_text_formatter.specs.Pieces.{Piece, IsPieces, is_readable}
use Rattle.cedar_text_formatter.specs.Pieces as Pieces
use Rattle.cedar_text_formatter.specs.Roles as Roles
use Rattle.cedar_text_formatter.proofs.Determined.{reading_long}
use Rattle.cedar_text_lexer.proofs.Cutting.{token_reading}

-- ---- choices

either : (P : List ℕ → Type 0) (b : Bool) (xs ys : List ℕ) → P xs → P ys → P (cond b xs ys)
either P true xs ys h i = h
either P false xs ys h i = i

-- of the line feed and what sets a line in
line : (P : List ℕ → Type 0) (depth : ℕ) → P (codes "\n") → P (codes "\n  ") → P (codes "\n    ") → P (line_at depth)
line P depth a b c = either P (depth == 0) (codes "\n") (cond (depth == 1) (codes "\n  ") (codes "\n    ")) a (either P (depth == 1) (codes "\n  ") (codes "\n    ") b c)

-- what holds of each gap before a token, and before a comment
token_gaps : (P : List ℕ → Type 0) (s : State) (k : Kind) (w : List ℕ) → P (apart s.last w) → P (codes " ") → P (codes "\n") → P (codes "\n\n") → P (codes "\n  ") → P (codes "\n    ") → P (token_gap s k w)
token_gaps P s k w none space feed empty two four =
    let lined = line P (depth_of s k) feed two four in
    either P s.is_after_comment (line_at (depth_of s k)) (gap_of s k w) lined (
    either P (Roles.is_start s.before) (apart s.last w) _ none (
    either P (is_close s k) (apart s.last w) _ none (
    either P (Roles.is_end s.before) (codes "\n\n") _ empty (
    either P (begins_line s k) (line_at (depth_of s k)) (codes " ") lined space))))

comment_gaps : (P : List ℕ → Type 0) (s : State) → P [] → P (codes "\n") → P (codes "\n\n") → P (codes "\n  ") → P (codes "\n    ") → P (comment_gap s)
comment_gaps P s none feed empty two four =
    let lined = line P s.depth feed two four in
    either P s.is_after_comment (line_at s.depth) _ lined (
    either P (Roles.is_start s.before) [] _ none (
    either P (Roles.is_end s.before) (codes "\n\n") (line_at s.depth) empty lined))

-- ---- blanks

abbrev is_gap : ℕ → Bool
is_gap b = (b == 32) || (b == 10)

one_blank : (b : ℕ) (bs : List ℕ) (ps : List Piece) → is_gap b ≡ true → IsPieces bs ps → IsPieces (b ∷ bs) ps
unfolding lib.Utf8.encode
one_blank b bs ps h p = at (b == 32) refl h
  where
    space : b ≡ 32 → IsPieces (b ∷ bs) ps
    space e = rw e (subst (λ (x : List ℕ). IsPieces (x ++ bs) ps) (encode_ascii 32 (omega arith)) (Pieces.skips 32 {after = bs} {pieces = ps} refl p))

    feed : b ≡ 10 → IsPieces (b ∷ bs) ps
    feed e = rw e (subst (λ (x : List ℕ). IsPieces (x ++ bs) ps) (encode_ascii 10 (omega arith)) (Pieces.skips 10 {after = bs} {pieces = ps} refl p))

    at : (q : Bool) → (b == 32) ≡ q → (q || (b == 10)) ≡ true → IsPieces (b ∷ bs) ps
    at true e i = space (search (tests, e))
    at false e i = feed (search (tests, i))

blanks : (g bs : List ℕ) (ps : List Piece) → list_all is_gap g ≡ true → IsPieces bs ps → IsPieces (g ++ bs) ps
blanks [] bs ps h p = p
blanks (b ∷ g) bs ps h p =
    let r = and_parts (is_gap b) (list_all is_gap g) h in
    one_blank b (g ++ bs) ps r.0 (blanks g bs ps r.1 p)

apart_is_gap : (last : ℕ) (w : List ℕ) → list_all is_gap (apart last w) ≡ true
apart_is_gap last w = either (λ g. list_all is_gap g ≡ true) (begins_with (run_together last) w) (codes " ") [] refl refl

token_gap_is_gap : (s : State) (k : Kind) (w : List ℕ) → list_all is_gap (token_gap s k w) ≡ true
token_gap_is_gap s k w = token_gaps (λ g. list_all is_gap g ≡ true) s k w (apart_is_gap s.last w) refl refl refl refl refl

comment_gap_is_gap : (s : State) → list_all is_gap (comment_gap s) ≡ true
comment_gap_is_gap s = comment_gaps (λ g. list_all is_gap g ≡ true) s refl refl refl refl refl

-- ---- nothing runs together

apart_apart : (last : ℕ) (b : ℕ) (bs more : List ℕ) → begins_with (run_together last) (apart last (b ∷ bs) ++ (b ∷ bs ++ more)) ≡ false
apart_apart last b bs more = at (run_together last b) refl
  where
    at : (q : Bool) → run_together last b ≡ q → begins_with (run_together last) (cond q (codes " ") [] ++ (b ∷ bs ++ more)) ≡ false
    at true e = refl
    at false e = e

behind_gap : (s : State) (k : Kind) (b : ℕ) (bs more : List ℕ) → begins_with (run_together s.last) (token_gap s k (b ∷ bs) ++ (b ∷ bs ++ more)) ≡ false
behind_gap s k b bs more = token_gaps (λ g. begins_with (run_together s.last) (g ++ (b ∷ bs ++ more)) ≡ false) s k (b ∷ bs) (apart_apart s.last b bs more) refl refl refl refl refl

behind_comment_gap : (s : State) (bs more : List ℕ) → begins_with (run_together s.last) (comment_gap s ++ (47 ∷ bs ++ more)) ≡ false
behind_comment_gap s bs more = comment_gaps (λ g. begins_with (run_together s.last) (g ++ (47 ∷ bs ++ more)) ≡ false) s refl refl refl refl refl

-- what is laid out does not go on with the last token
pub separate : {bs : List ℕ} {ps : List Piece} (s : State) → IsPieces bs ps → begins_with (run_together s.last) (layout_from s ps) ≡ false
unfolding layout_from
separate s Pieces.end = either (λ g. begins_with (run_together s.last) g ≡ false) (s.is_after_comment || not (Roles.is_start s.before)) (codes "\n") [] refl refl
separate s (Pieces.skips c x p) = separate s p
separate s (Pieces.notes {bs} {after} {pieces} all stops p) = behind_comment_gap s (47 ∷ bs) (layout_from (behind_comment s) pieces)
separate s (Pieces.has {k} {word = []} {after} {pieces} r t p) = absurd (omega (arith, reading_long (token_reading t)))
separate s (Pieces.has {k} {word = b ∷ bs} {after} {pieces} r t p) = behind_gap s k b bs (layout_from (behind_token s k (b ∷ bs)) pieces)

-- what is laid out behind a comment begins a line
pub line_feed : {bs : List ℕ} {ps : List Piece} (s : State) → IsPieces bs ps → begins_with is_line_byte (layout_from (behind_comment s) ps) ≡ false
unfolding layout_from
line_feed s Pieces.end = refl
line_feed s (Pieces.skips c x p) = line_feed s p
line_feed s (Pieces.notes {bs} {after} {pieces} all stops p) = line (λ g. begins_with is_line_byte (g ++ (47 ∷ 47 ∷ bs ++ layout_from (behind_comment (behind_comment s)) pieces)) ≡ false) s.depth refl refl refl
line_feed s (Pieces.has {k} {word} {after} {pieces} r t p) = line (λ g. begins_with is_line_byte (g ++ (word ++ layout_from (behind_token (behind_comment s) k word) pieces)) ≡ false) (depth_of s k) refl refl refl

-- ---- tokens stay what they are

-- the last byte passes where each does
pub last_passes : (p : ℕ → Bool) (b : ℕ) (bs : List ℕ) → p b ≡ true → list_all p bs ≡ true → p (get_or (b ∷ bs) (length bs) 0) ≡ true
last_passes p b [] h all = h
last_passes p b (c ∷ bs) h all =
    let r = and_parts (p c) (list_all p bs) all in
    last_passes p c bs r.0 r.1

last_at : (b : ℕ) (bs : List ℕ) → last_of (b ∷ bs) ≡ get_or (b ∷ bs) (length bs) 0
last_at b bs = let e : length (b ∷ bs) - 1 ≡ length bs = omega arith in ap (λ (n : ℕ). get_or (b ∷ bs) n 0) e

pub starts_goes_on : (b : ℕ) → starts_word b ≡ true → is_word_byte b ≡ true
starts_goes_on b h = grind (arith, nat_tests)

pub digit_goes_on : (b : ℕ) → is_ascii_digit b ≡ true → is_word_byte b ≡ true
digit_goes_on b h = grind (arith, nat_tests)

pub digits_go_on : (bs : List ℕ) → list_all is_ascii_digit bs ≡ true → list_all is_word_byte bs ≡ true
digits_go_on [] h = refl
digits_go_on (b ∷ bs) h =
    let r = and_parts (is_ascii_digit b) (list_all is_ascii_digit bs) h in
    rw (digit_goes_on b r.0) (digits_go_on bs r.1)

-- a word does not go on
word_stops : (last : ℕ) (more : List ℕ) → is_word_byte last ≡ true → begins_with (run_together last) more ≡ false → begins_with is_word_byte more ≡ false
word_stops last [] h s = refl
word_stops last (y ∷ more) h s = at (is_word_byte y) (or_parts (is_word_byte y && is_word_byte last) (make_operator last y) s).0
  where
    at : (q : Bool) → (q && is_word_byte last) ≡ false → q ≡ false
    at true e = sym h ∙ e
    at false e = refl

no_digit : (y : ℕ) → is_word_byte y ≡ false → is_ascii_digit y ≡ false
no_digit y h = at (is_ascii_digit y) refl
  where
    at : (q : Bool) → is_ascii_digit y ≡ q → q ≡ false
    at true e = sym (digit_goes_on y e) ∙ h
    at false e = refl

digits_stop : (more : List ℕ) → begins_with is_word_byte more ≡ false → begins_with is_ascii_digit more ≡ false
digits_stop [] h = refl
digits_stop (y ∷ more) h = no_digit y h

-- one row of the operators
single_row : (a b x : ℕ) (k : Kind) (r : Option Kind) → (is_some r ≡ true → make_operator a b ≡ true) → is_some (cond (bytes_eq (a ∷ b ∷ []) (x ∷ [])) (Some k) r) ≡ true → make_operator a b ≡ true
single_row a b x k r rest h = at (a == x) h
  where
    at : (q : Bool) → is_some (cond (q && false) (Some k) r) ≡ true → make_operator a b ≡ true
    at true e = rest e
    at false e = rest e

double_row : (a b x y : ℕ) (k : Kind) (r : Option Kind) → make_operator x y ≡ true → (is_some r ≡ true → make_operator a b ≡ true) → is_some (cond (bytes_eq (a ∷ b ∷ []) (x ∷ y ∷ [])) (Some k) r) ≡ true → make_operator a b ≡ true
double_row a b x y k r known rest h = at (a == x) refl (b == y) refl h
  where
    at : (q : Bool) → (a == x) ≡ q → (u : Bool) → (b == y) ≡ u → is_some (cond (q && (u && true)) (Some k) r) ≡ true → make_operator a b ≡ true
    at true e true f g =
        let first : a ≡ x = search (tests, e) in
        let second : b ≡ y = search (tests, f) in
        rw (first, second) known
    at true e false f g = rest g
    at false e u f g = rest g

-- bytes that are an operator of two bytes
operators : (a b : ℕ) → makes_operator a b ≡ true → make_operator a b ≡ true
operators a b =
    single_row a b 64 kind.At _ (
    single_row a b 40 kind.OpenParen _ (
    single_row a b 41 kind.CloseParen _ (
    single_row a b 91 kind.OpenBracket _ (
    single_row a b 93 kind.CloseBracket _ (
    single_row a b 123 kind.OpenBrace _ (
    single_row a b 125 kind.CloseBrace _ (
    single_row a b 44 kind.Comma _ (
    single_row a b 59 kind.Semicolon _ (
    single_row a b 58 kind.Colon _ (
    double_row a b 58 58 kind.Colons _ refl (
    single_row a b 46 kind.Dot _ (
    double_row a b 124 124 kind.Or _ refl (
    double_row a b 38 38 kind.And _ refl (
    double_row a b 61 61 kind.Equal _ refl (
    double_row a b 33 61 kind.NotEqual _ refl (
    single_row a b 60 kind.Less _ (
    double_row a b 60 61 kind.LessEqual _ refl (
    single_row a b 62 kind.Greater _ (
    double_row a b 62 61 kind.GreaterEqual _ refl (
    single_row a b 33 kind.Bang _ (
    single_row a b 43 kind.Plus _ (
    single_row a b 45 kind.Minus _ (
    single_row a b 42 kind.Star _ (
    λ h. absurd (false≢true h)))))))))))))))))))))))))

no_operator : (a b : ℕ) → make_operator a b ≡ false → makes_operator a b ≡ false
no_operator a b h = at (makes_operator a b) refl
  where
    at : (q : Bool) → makes_operator a b ≡ q → q ≡ false
    at true e = sym (operators a b e) ∙ h
    at false e = refl

operator_stops : (a : ℕ) (more : List ℕ) → begins_with (run_together a) more ≡ false → begins_with (makes_operator a) more ≡ false
operator_stops a [] s = refl
operator_stops a (y ∷ more) s = no_operator a y (or_parts (is_word_byte y && is_word_byte a) (make_operator a y) s).1

-- a token is one also where something else stands behind it that does not run together with it
pub token_stays : {k : Kind} {w after : List ℕ} (more : List ℕ) → is_readable k ≡ true → IsToken k w after → begins_with (run_together (last_of w)) more ≡ false → IsToken k w more
token_stays more r (word {b} {bs} h) s =
    let passes = last_passes is_word_byte b bs (starts_goes_on b h.starts) h.all in
    word (record { starts = h.starts; all = h.all; stops = word_stops (get_or (b ∷ bs) (length bs) 0) more passes (rw last_at at s) })
token_stays more r (slot {b} {bs} h) s =
    let passes = last_passes is_word_byte b bs (starts_goes_on b h.starts) h.all in
    slot (record { starts = h.starts; all = h.all; stops = word_stops (get_or (b ∷ bs) (length bs) 0) more passes (rw last_at at s) })
token_stays more r (number {b} {bs} h) s =
    let passes = last_passes is_word_byte b bs (digit_goes_on b h.starts) (digits_go_on bs h.all) in
    number (record { starts = h.starts; all = h.all; stops = digits_stop more (word_stops (get_or (b ∷ bs) (length bs) 0) more passes (rw last_at at s)) })
token_stays more r (text q) s = text q
token_stays more r (unclosed u) s = absurd (false≢true r)
token_stays more r (double h) s = double h
token_stays more r (single {k} {a} h n) s = single h (operator_stops a more s)
token_stays more r (unreadable c x y) s = absurd (false≢true r)

-- ---- the layout

pub laid_out : {bs : List ℕ} {ps : List Piece} (s : State) → IsPieces bs ps → IsPieces (layout_from s ps) ps
unfolding layout_from
laid_out s Pieces.end = either (λ g. IsPieces g []) (s.is_after_comment || not (Roles.is_start s.before)) (codes "\n") [] (one_blank 10 [] [] refl Pieces.end) Pieces.end
laid_out s (Pieces.skips c x p) = laid_out s p
laid_out s (Pieces.notes {bs} {after} {pieces} all stops p) =
    let more = laid_out (behind_comment s) p in
    blanks (comment_gap s) (47 ∷ 47 ∷ (bs ++ layout_from (behind_comment s) pieces)) (Pieces.comment (47 ∷ 47 ∷ bs) ∷ pieces) (comment_gap_is_gap s) (Pieces.notes all (line_feed s p) more)
laid_out s (Pieces.has {k} {word} {after} {pieces} r t p) =
    let more = laid_out (behind_token s k word) p in
    let stays = token_stays (layout_from (behind_token s k word) pieces) r t (separate (behind_token s k word) p) in
    blanks (token_gap s k word) (word ++ layout_from (behind_token s k word) pieces) (Pieces.token k word ∷ pieces) (token_gap_is_gap s k word) (Pieces.has r stays more)
