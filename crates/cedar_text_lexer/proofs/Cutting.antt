-- With what bytes begin, computed: each token and each blank or comment is what this says, and so no other.
use Rattle.std.proofs.Common.{◌≡◌, ◌≢◌, ℕ, suc, ◌<◌, ◌≤◌, Bool, true, false, cond, not, ◌&&◌, ◌==◌, Option, Some, None, is_some, List, [], ◌∷◌, ◌++◌, length, take, drop, codes, nat_lt, bytes_eq, encode_utf8, refl, sym, ap, ◌∙◌, subst, ◌⊎◌, inl, inr, arith, tests, rules, one-add, append-nil, append_assoc, length-append, take_at, ne_eqb, add-one}
use Rattle.std.specs.List.{list_all, prefix_len}
use Rattle.std.specs.Char.{is_ascii_digit, is_whitespace}
use Rattle.std.proofs.lemmas.Bool.{false≢true, and_parts, cases_lt, not-true, or_parts}
use Rattle.std.proofs.lemmas.Bool.Decides.{nat_tests}
use Rattle.std.proofs.lemmas.Slice.Eq.{bytes_eq-Decides}
use Rattle.std.proofs.lemmas.Str.{char_from_byte, length-encode, len_utf8_bounds}
use Rattle.cedar_text_lexer.specs.declared.tokens.Kind.{Kind}
use Rattle.cedar_text_lexer.specs.declared.tokens.Kind.TheVariants as kind
use Rattle.cedar_text_lexer.specs.Lexicon.{is_blank, IsToken, IsSkipped, IsQuoted, IsUnclosed, IsWord, makes_operator, word, slot, number, text, unclosed, double, single, unreadable, blank, comment, empty, plain, escaped, ends, ends_escaping, goes_on, goes_on_escaped}
use Rattle.cedar_text_lexer.specs.Operators.{operator_kind}
use Rattle.cedar_text_lexer.specs.Scanning.{begins_with, begins_slot, begins_comment, begins_operator, begins_token, begins_bare_return, is_line_byte, quote_from, double_of, single_of}
use Rattle.cedar_text_lexer.specs.Words.{starts_word, is_word_byte, word_kind, slot_kind}

-- a kind, or none, and how many bytes
pub record Cut : Type 0 where
  pub kind : Option Kind
  pub len : ℕ

abbrev of_operators : Option Kind → Option Kind → Cut → Cut
of_operators (Some k) s c = record { kind = Some k; len = 2 }
of_operators None (Some k) c = record { kind = Some k; len = 1 }
of_operators None None c = c

abbrev of_text : List ℕ → Option ℕ → Cut
of_text bs (Some n) = record { kind = Some kind.Text; len = suc (suc n) }
of_text bs None = record { kind = Some kind.UnclosedText; len = length bs }

abbrev word_len : List ℕ → ℕ
word_len bs = suc (prefix_len is_word_byte (drop 1 bs))

unfoldable pub cut_of : List ℕ → Cut
cut_of bs =
    cond (begins_with starts_word bs) (record { kind = Some (word_kind (take (word_len bs) bs)); len = word_len bs }) (
    cond (begins_with is_ascii_digit bs) (record { kind = Some kind.Number; len = suc (prefix_len is_ascii_digit (drop 1 bs)) }) (
    cond (begins_with (λ b. b == 34) bs) (of_text bs (quote_from false (drop 1 bs))) (
    cond (begins_slot bs) (record { kind = Some (slot_kind (take (word_len (drop 1 bs)) (drop 1 bs))); len = suc (word_len (drop 1 bs)) }) (
    cond (begins_comment bs) (record { kind = None; len = suc (suc (prefix_len is_line_byte (drop 2 bs))) }) (
    of_operators (double_of bs) (single_of bs) (record { kind = None; len = 0 }))))))

-- ---- runs

run_len : (p : ℕ → Bool) (bs after : List ℕ) → list_all p bs ≡ true → begins_with p after ≡ false → prefix_len p (bs ++ after) ≡ length bs
run_len p [] [] h s = refl
run_len p [] (b ∷ bs) h s = rw s refl
run_len p (b ∷ bs) after h s =
    let r = and_parts (p b) (list_all p bs) h in
    rw r.0 (rw one-add (ap suc (run_len p bs after r.1 s)))

-- ---- quotes

quoted_len : {bs : List ℕ} → IsQuoted bs → (after : List ℕ) → quote_from false (bs ++ 34 ∷ after) ≡ Some (length bs)
quoted_len empty after = refl
quoted_len (plain {b} {bs} x y q) after = rw (ne_eqb b 34 x, ne_eqb b 92 y, quoted_len q after) (ap Some (add-one (length bs)))
quoted_len (escaped {b} {bs} q) after = rw (quoted_len q after) (ap Some (omega arith))

unclosed_none : {bs : List ℕ} → IsUnclosed bs → quote_from false bs ≡ None
unclosed_none ends = refl
unclosed_none ends_escaping = refl
unclosed_none (goes_on {b} {bs} x y u) = rw (ne_eqb b 34 x, ne_eqb b 92 y, unclosed_none u) refl
unclosed_none (goes_on_escaped {b} {bs} u) = rw (unclosed_none u) refl

-- ---- operators

-- a byte that can begin an operator
abbrev opens : List ℕ → Bool
opens [] = false
opens (b ∷ bs) = nat_lt 32 b && (nat_lt b 128 && (not (starts_word b) && (not (is_ascii_digit b) && (not (b == 34) && (not (b == 63) && not (b == 47))))))

row : (w t : List ℕ) (k j : Kind) (r : Option Kind) → opens t ≡ true → (r ≡ Some j → opens w ≡ true) → cond (bytes_eq w t) (Some k) r ≡ Some j → opens w ≡ true
row w t k j r h rest = at (bytes_eq w t) (bytes_eq-Decides w t).0
  where
    at : (b : Bool) → (b ≡ true → w ≡ t) → cond b (Some k) r ≡ Some j → opens w ≡ true
    at true is e = rw (is refl) h
    at false is e = rest e

operator_opens : (w : List ℕ) (j : Kind) → operator_kind w ≡ Some j → opens w ≡ true
operator_opens w j =
    row w (codes "@") kind.At j _ refl (
    row w (codes "(") kind.OpenParen j _ refl (
    row w (codes ")") kind.CloseParen j _ refl (
    row w (codes "[") kind.OpenBracket j _ refl (
    row w (codes "]") kind.CloseBracket j _ refl (
    row w (codes "{") kind.OpenBrace j _ refl (
    row w (codes "}") kind.CloseBrace j _ refl (
    row w (codes ",") kind.Comma j _ refl (
    row w (codes ";") kind.Semicolon j _ refl (
    row w (codes ":") kind.Colon j _ refl (
    row w (codes "::") kind.Colons j _ refl (
    row w (codes ".") kind.Dot j _ refl (
    row w (codes "||") kind.Or j _ refl (
    row w (codes "&&") kind.And j _ refl (
    row w (codes "==") kind.Equal j _ refl (
    row w (codes "!=") kind.NotEqual j _ refl (
    row w (codes "<") kind.Less j _ refl (
    row w (codes "<=") kind.LessEqual j _ refl (
    row w (codes ">") kind.Greater j _ refl (
    row w (codes ">=") kind.GreaterEqual j _ refl (
    row w (codes "!") kind.Bang j _ refl (
    row w (codes "+") kind.Plus j _ refl (
    row w (codes "-") kind.Minus j _ refl (
    row w (codes "*") kind.Star j _ refl (
    λ h. absurd (search rules)))))))))))))))))))))))))

-- what is known of such a byte
record Opening (b : ℕ) : Type 0 where
  above : 32 < b
  low : b < 128
  no_word : starts_word b ≡ false
  no_digit : is_ascii_digit b ≡ false
  no_quote : (b == 34) ≡ false
  no_mark : (b == 63) ≡ false
  no_slash : (b == 47) ≡ false

opening : (b : ℕ) (bs : List ℕ) → opens (b ∷ bs) ≡ true → Opening b
opening b bs h =
    let p1 = and_parts (nat_lt 32 b) _ h in
    let p2 = and_parts (nat_lt b 128) _ p1.1 in
    let p3 = and_parts (not (starts_word b)) _ p2.1 in
    let p4 = and_parts (not (is_ascii_digit b)) _ p3.1 in
    let p5 = and_parts (not (b == 34)) _ p4.1 in
    let p6 = and_parts (not (b == 63)) (not (b == 47)) p5.1 in
    record {
      above = search (tests, p1.0);
      low = search (tests, p2.0);
      no_word = not-true (starts_word b) p3.0;
      no_digit = not-true (is_ascii_digit b) p4.0;
      no_quote = not-true (b == 34) p5.0;
      no_mark = not-true (b == 63) p6.0;
      no_slash = not-true (b == 47) p6.1;
    }

-- ---- what a token or a blank is, as computed

-- as computed; or one character, of which is computed that nothing else begins there
pub data Reading : Option Kind → List ℕ → List ℕ → Type 0 where
  known : {k : Option Kind} {w after : List ℕ} → cut_of (w ++ after) ≡ record { kind = k; len = length w } → 0 < length w → Reading k w after
  character : (c : ℕ) {after : List ℕ} → cut_of (encode_utf8 c ++ after) ≡ record { kind = None; len = 0 } → Reading (cond (is_blank c after) None (Some kind.Unreadable)) (encode_utf8 c) after

digit_no_word : (b : ℕ) → is_ascii_digit b ≡ true → starts_word b ≡ false
digit_no_word b h = grind (arith, nat_tests)

none_of : (o : Option Kind) → is_some o ≡ false → o ≡ None
none_of None h = refl
none_of (Some k) h = absurd (false≢true (sym h))

double_cut : (k : Kind) (a b : ℕ) (after : List ℕ) → operator_kind (a ∷ b ∷ []) ≡ Some k → cut_of (a ∷ b ∷ after) ≡ record { kind = Some k; len = 2 }
unfolding cut_of
double_cut k a b after h =
    let o = opening a (b ∷ []) (operator_opens (a ∷ b ∷ []) k h) in
    rw (o.no_word, o.no_digit, o.no_quote, o.no_mark, o.no_slash, h) refl

single_cut : (k : Kind) (a : ℕ) (after : List ℕ) → operator_kind (a ∷ []) ≡ Some k → begins_with (makes_operator a) after ≡ false → cut_of (a ∷ after) ≡ record { kind = Some k; len = 1 }
unfolding cut_of
single_cut k a [] h n =
    let o = opening a [] (operator_opens (a ∷ []) k h) in
    rw (o.no_word, o.no_digit, o.no_quote, o.no_mark, o.no_slash, h) refl
single_cut k a (b ∷ after) h n =
    let o = opening a [] (operator_opens (a ∷ []) k h) in
    rw (o.no_word, o.no_digit, o.no_quote, o.no_mark, o.no_slash, none_of (operator_kind (a ∷ b ∷ [])) n, h) refl

word_cut : (b : ℕ) (bs after : List ℕ) → IsWord b bs after → cut_of (b ∷ (bs ++ after)) ≡ record { kind = Some (word_kind (b ∷ bs)); len = suc (length bs) }
unfolding cut_of
word_cut b bs after h = rw (h.starts, run_len is_word_byte bs after h.all h.stops, take_at bs after (length bs) refl) refl

slot_cut : (b : ℕ) (bs after : List ℕ) → IsWord b bs after → cut_of (63 ∷ b ∷ (bs ++ after)) ≡ record { kind = Some (slot_kind (b ∷ bs)); len = suc (suc (length bs)) }
unfolding cut_of
slot_cut b bs after h = rw (h.starts, run_len is_word_byte bs after h.all h.stops, take_at bs after (length bs) refl) refl

number_cut : (b : ℕ) (bs after : List ℕ) → is_ascii_digit b ≡ true → list_all is_ascii_digit bs ≡ true → begins_with is_ascii_digit after ≡ false → cut_of (b ∷ (bs ++ after)) ≡ record { kind = Some kind.Number; len = suc (length bs) }
unfolding cut_of
number_cut b bs after h all stops = rw (digit_no_word b h, h, run_len is_ascii_digit bs after all stops) refl

text_cut : (bs after : List ℕ) → IsQuoted bs → cut_of (34 ∷ (bs ++ 34 ∷ after)) ≡ record { kind = Some kind.Text; len = suc (suc (length bs)) }
unfolding cut_of
text_cut bs after q = rw (quoted_len q after) refl

unclosed_cut : (bs : List ℕ) → IsUnclosed bs → cut_of (34 ∷ bs) ≡ record { kind = Some kind.UnclosedText; len = suc (length bs) }
unfolding cut_of
unclosed_cut bs u = rw (unclosed_none u) refl

comment_cut : (bs after : List ℕ) → list_all is_line_byte bs ≡ true → begins_with is_line_byte after ≡ false → cut_of (47 ∷ 47 ∷ (bs ++ after)) ≡ record { kind = None; len = suc (suc (length bs)) }
unfolding cut_of
comment_cut bs after all stops = rw (run_len is_line_byte bs after all stops) refl

other_cut : (bs : List ℕ) → begins_token bs ≡ false → cut_of bs ≡ record { kind = None; len = 0 }
unfolding cut_of
other_cut bs h =
    let p1 = or_parts (begins_with starts_word bs) _ h in
    let p2 = or_parts (begins_with is_ascii_digit bs) _ p1.1 in
    let p3 = or_parts (begins_with (λ b. b == 34) bs) _ p2.1 in
    let p4 = or_parts (begins_slot bs) _ p3.1 in
    let p5 = or_parts (begins_comment bs) (begins_operator bs) p4.1 in
    let p6 = or_parts (is_some (double_of bs)) (is_some (single_of bs)) p5.1 in
    rw (p1.0, p2.0, p3.0, p4.0, p5.0, none_of (double_of bs) p6.0, none_of (single_of bs) p6.1) refl

-- a blank begins with a byte with which no token does
white_low : (c : ℕ) → is_whitespace c ≡ true → c < 128 → c < 33
white_low c h l = grind (arith, nat_tests)

no_such : (b : ℕ) (bs : List ℕ) → (b < 33) ⊎ (128 ≤ b) → (o : Option Kind) → ((k : Kind) → o ≡ Some k → opens (b ∷ bs) ≡ true) → is_some o ≡ false
no_such b bs far None h = refl
no_such b bs far (Some k) h = absurd (apart far (opening b bs (h k refl)))
  where
    apart : (b < 33) ⊎ (128 ≤ b) → Opening b → ⊥
    apart (inl lt) o = omega (arith, o.above)
    apart (inr ge) o = omega (arith, o.low)

blank_nothing : (b : ℕ) (bs : List ℕ) → (b < 33) ⊎ (128 ≤ b) → begins_token (b ∷ bs) ≡ false
blank_nothing b bs far =
    let p1 : starts_word b ≡ false = word_far far in
    let p2 : is_ascii_digit b ≡ false = digit_far far in
    let p3 : (b == 34) ≡ false = ne_eqb b 34 (apart 34 (omega arith) (omega arith) far) in
    let p4 : (b == 63) ≡ false = ne_eqb b 63 (apart 63 (omega arith) (omega arith) far) in
    let p5 : (b == 47) ≡ false = ne_eqb b 47 (apart 47 (omega arith) (omega arith) far) in
    let p6 : is_some (single_of (b ∷ bs)) ≡ false = no_such b [] far (operator_kind (b ∷ [])) (λ k. operator_opens (b ∷ []) k) in
    let p7 : is_some (double_of (b ∷ bs)) ≡ false = double_far bs in
    rw (p1, p2, p3, p4, p5, p7, p6) refl
  where
    word_far : (b < 33) ⊎ (128 ≤ b) → starts_word b ≡ false
    word_far (inl lt) = grind (arith, nat_tests)
    word_far (inr ge) = grind (arith, nat_tests)

    digit_far : (b < 33) ⊎ (128 ≤ b) → is_ascii_digit b ≡ false
    digit_far (inl lt) = grind (arith, nat_tests)
    digit_far (inr ge) = grind (arith, nat_tests)

    apart : (n : ℕ) → 33 ≤ n → n < 128 → (b < 33) ⊎ (128 ≤ b) → b ≢ n
    apart n p q (inl lt) e = omega arith
    apart n p q (inr ge) e = omega arith

    double_far : (xs : List ℕ) → is_some (double_of (b ∷ xs)) ≡ false
    double_far [] = refl
    double_far (x ∷ xs) = no_such b (x ∷ []) far (operator_kind (b ∷ x ∷ [])) (λ k. operator_opens (b ∷ x ∷ []) k)

blank_cut : (c : ℕ) (after bs : List ℕ) → is_whitespace c ≡ true → encode_utf8 c ++ after ≡ bs → begins_token bs ≡ false
blank_cut c after [] h e = absurd (omega (arith, ap length e, length-append (encode_utf8 c) after, length-encode c, (len_utf8_bounds c).0))
blank_cut c after (b ∷ bs) h e = at (cases_lt b 128)
  where
    at : (b < 128) ⊎ (128 ≤ b) → begins_token (b ∷ bs) ≡ false
    at (inl lt) =
        let same : c ≡ b = char_from_byte (b ∷ bs) after c (sym e) lt (omega arith) in
        blank_nothing b bs (inl (omega (arith, white_low c h (omega (arith, same)), same)))
    at (inr ge) = blank_nothing b bs (inr ge)

pub long : (c : ℕ) → 0 < length (encode_utf8 c)
long c = omega (arith, length-encode c, (len_utf8_bounds c).0)

pub token_reading : {k : Kind} {w after : List ℕ} → IsToken k w after → Reading (Some k) w after
token_reading (word {b} {bs} {after} h) = known (word_cut b bs after h) (omega arith)
token_reading (slot {b} {bs} {after} h) = known (slot_cut b bs after h) (omega arith)
token_reading (number {b} {bs} {after} h) = known (number_cut b bs after h.starts h.all h.stops) (omega arith)
token_reading (text {bs} {after} q) =
    let size : length (34 ∷ (bs ++ 34 ∷ [])) ≡ suc (suc (length bs)) = ap suc (length-append bs (34 ∷ []) ∙ add-one (length bs)) in
    known (rw (append_assoc, size) (text_cut bs after q)) (omega arith)
token_reading (unclosed {bs} u) = known (rw append-nil (unclosed_cut bs u)) (omega arith)
token_reading (double {k} {a} {b} {after} h) = known (double_cut k a b after h) (omega arith)
token_reading (single {k} {a} {after} h n) = known (single_cut k a after h n) (omega arith)
token_reading (unreadable c {after} x y) =
    let k : cond (is_blank c after) None (Some kind.Unreadable) ≡ Some kind.Unreadable = rw x refl in
    subst (λ (o : Option Kind). Reading o (encode_utf8 c) after) k (character c (other_cut (encode_utf8 c ++ after) y))

-- a blank is white
white : (c : ℕ) (after : List ℕ) → is_blank c after ≡ true → is_whitespace c ≡ true
white c after h = first (is_whitespace c) (not (begins_bare_return (encode_utf8 c ++ after))) h
  where
    first : (a b : Bool) → (a && b) ≡ true → a ≡ true
    first true b h = refl
    first false b h = absurd (false≢true h)

pub skipped_reading : {w after : List ℕ} → IsSkipped w after → Reading None w after
skipped_reading (blank c {after} x) =
    let k : cond (is_blank c after) None (Some kind.Unreadable) ≡ None = rw x refl in
    subst (λ (o : Option Kind). Reading o (encode_utf8 c) after) k (character c (other_cut (encode_utf8 c ++ after) (blank_cut c after (encode_utf8 c ++ after) (white c after x) refl)))
skipped_reading (comment {bs} {after} all stops) = known (comment_cut bs after all stops) (omega arith)
