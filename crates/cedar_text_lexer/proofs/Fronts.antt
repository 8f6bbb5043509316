-- Each way in which a text begins is a token, or none, of the lexicon.
use Rattle.std.proofs.Common.{◌≡◌, ℕ, zero, suc, ◌+◌, ◌-◌, ◌<◌, Bool, true, false, cond, not, ◌&&◌, ◌==◌, Option, Some, None, is_some, option_map, List, [], ◌∷◌, ◌++◌, length, get_or, take, drop, slice_range, refl, ap, sym, ◌∙◌, arith, tests, one-add, add-one, take_all, drop_of_length-le, encode_utf8, rules, take-suc, take_at, drop_at, le_refl, IsUtf8, IsCharBoundary}
use Rattle.std.specs.List.{prefix_len}
use Rattle.std.specs.Char.{is_ascii_digit, is_whitespace}
use Rattle.std.proofs.lemmas.Bool.{false≢true, and_parts, eqb-false}
use Rattle.cedar_text_lexer.specs.declared.tokens.Kind.{Kind}
use Rattle.cedar_text_lexer.specs.declared.tokens.Kind.TheVariants as kind
use Rattle.cedar_text_lexer.specs.Words.{starts_word, is_word_byte, word_kind, slot_kind}
use Rattle.cedar_text_lexer.specs.Scanning.{begins_with, begins_slot, begins_comment, begins_token, begins_bare_return, is_line_byte, quote_from, double_of, single_of}
use Rattle.cedar_text_lexer.specs.Lexicon.{IsToken, IsSkipped, IsQuoted, IsUnclosed, word, slot, number, text, unclosed, double, single, unreadable, blank, comment, empty, plain, escaped, ends, ends_escaping, goes_on, goes_on_escaped}
use Rattle.std.proofs.lemmas.Str.{IsCharBoundary-after_ascii, IsCharBoundary-at_seam, IsUtf8-past_char}
use Rattle.cedar_text_lexer.proofs.Runs.{taken, stopped, run_boundary, line_boundary}

pub word_cut : (bs : List ℕ) (n : ℕ) → n ≡ 1 + prefix_len is_word_byte (drop 1 bs) → begins_with starts_word bs ≡ true → IsToken (word_kind (slice_range bs 0 n)) (take n bs) (drop n bs)
word_cut [] n e h = absurd (false≢true h)
word_cut (b ∷ bs) n e h =
    let m = prefix_len is_word_byte bs in
    let whole : n - 0 ≡ suc m = omega arith in
    rw (whole, e ∙ one-add m) (word (record { starts = h; all = taken is_word_byte bs; stops = stopped is_word_byte bs }))

pub number_cut : (bs : List ℕ) (n : ℕ) → n ≡ 1 + prefix_len is_ascii_digit (drop 1 bs) → begins_with is_ascii_digit bs ≡ true → IsToken kind.Number (take n bs) (drop n bs)
number_cut [] n e h = absurd (false≢true h)
number_cut (b ∷ bs) n e h = rw (e ∙ one-add (prefix_len is_ascii_digit bs)) (number (record { starts = h; all = taken is_ascii_digit bs; stops = stopped is_ascii_digit bs }))

pub slot_cut : (bs : List ℕ) (n : ℕ) → n ≡ 2 + prefix_len is_word_byte (drop 2 bs) → begins_slot bs ≡ true → IsToken (slot_kind (slice_range bs 1 n)) (take n bs) (drop n bs)
slot_cut [] n e h = absurd (false≢true h)
slot_cut (a ∷ []) n e h = absurd (false≢true (and_parts (a == 63) false h).1)
slot_cut (a ∷ b ∷ bs) n e h =
    let m = prefix_len is_word_byte bs in
    let long : n ≡ suc (suc m) = omega arith in
    let mark : a ≡ 63 = search (tests, (and_parts (a == 63) (starts_word b) h).0) in
    let less : n - 1 ≡ suc m = omega arith in
    rw (less, long, mark) (slot (record { starts = (and_parts (a == 63) (starts_word b) h).1; all = taken is_word_byte bs; stops = stopped is_word_byte bs }))

pub comment_cut : (bs : List ℕ) (n : ℕ) → n ≡ 2 + prefix_len is_line_byte (drop 2 bs) → begins_comment bs ≡ true → IsSkipped (take n bs) (drop n bs)
comment_cut [] n e h = absurd (false≢true h)
comment_cut (a ∷ []) n e h = absurd (false≢true (and_parts (a == 47) false h).1)
comment_cut (a ∷ b ∷ bs) n e h =
    let m = prefix_len is_line_byte bs in
    let long : n ≡ suc (suc m) = omega arith in
    let first : a ≡ 47 = search (tests, (and_parts (a == 47) (b == 47) h).0) in
    let second : b ≡ 47 = search (tests, (and_parts (a == 47) (b == 47) h).1) in
    rw (long, first, second) (comment (taken is_line_byte bs) (stopped is_line_byte bs))

-- ---- texts

abbrev QuotedFrom : Bool → List ℕ → Type 0
QuotedFrom true xs = IsQuoted (92 ∷ xs)
QuotedFrom false xs = IsQuoted xs

abbrev UnclosedFrom : Bool → List ℕ → Type 0
UnclosedFrom true xs = IsUnclosed (92 ∷ xs)
UnclosedFrom false xs = IsUnclosed xs

-- what is known where the quote that closes is n bytes on
record Closed (e : Bool) (xs : List ℕ) (n : ℕ) : Type 0 where
  inside : QuotedFrom e (take n xs)
  within : n < length xs
  quote : get_or xs n 0 ≡ 34

some_more : (n : ℕ) (q : Option ℕ) → option_map (λ k. k + 1) q ≡ Some n → (k : ℕ) × (q ≡ Some k) × (n ≡ suc k)
some_more n None h = absurd (search rules)
some_more n (Some k) h = let e : k + 1 ≡ n = cc in (k, refl, sym e ∙ add-one k)

-- whether the next byte closes, or what it makes of the rest
closed_of : (xs : List ℕ) (e : Bool) (n : ℕ) → quote_from e xs ≡ Some n → Closed e xs n
closed_of [] e n h = absurd (search rules)
closed_of (b ∷ bs) true n h =
    let m = some_more n (quote_from false bs) h in
    let r = closed_of bs false m.0 m.1 in
    rw m.2 (record { inside = escaped r.inside; within = omega (arith, r.within); quote = r.quote })
closed_of (b ∷ bs) false n h = at (λ e k. closed_of bs e k) (b == 34) refl (b == 92) refl h
  where
    at : ((e : Bool) (k : ℕ) → quote_from e bs ≡ Some k → Closed e bs k) → (q : Bool) → (b == 34) ≡ q → (s : Bool) → (b == 92) ≡ s → cond q (Some 0) (option_map (λ k. k + 1) (quote_from s bs)) ≡ Some n → Closed false (b ∷ bs) n
    at rest true e s f g =
        let zero_on : zero ≡ n = cc in
        rw (← zero_on) (record { inside = empty; within = omega arith; quote = search (tests, e) })
    at rest false e true f g =
        let m = some_more n (quote_from true bs) g in
        let r = rest true m.0 m.1 in
        let is : b ≡ 92 = search (tests, f) in
        rw (m.2, is) (record { inside = r.inside; within = omega (arith, r.within); quote = r.quote })
    at rest false e false f g =
        let m = some_more n (quote_from false bs) g in
        let r = rest false m.0 m.1 in
        rw m.2 (record { inside = plain (eqb-false b 34 e) (eqb-false b 92 f) r.inside; within = omega (arith, r.within); quote = r.quote })

none_more : (q : Option ℕ) → option_map (λ k. k + 1) q ≡ None → q ≡ None
none_more None h = refl
none_more (Some k) h = absurd (search rules)

unclosed_of : (xs : List ℕ) (e : Bool) → quote_from e xs ≡ None → UnclosedFrom e xs
unclosed_of [] true h = ends_escaping
unclosed_of [] false h = ends
unclosed_of (b ∷ bs) true h = goes_on_escaped (unclosed_of bs false (none_more (quote_from false bs) h))
unclosed_of (b ∷ bs) false h = at (λ e. unclosed_of bs e) (b == 34) refl (b == 92) refl h
  where
    at : ((e : Bool) → quote_from e bs ≡ None → UnclosedFrom e bs) → (q : Bool) → (b == 34) ≡ q → (s : Bool) → (b == 92) ≡ s → cond q (Some 0) (option_map (λ k. k + 1) (quote_from s bs)) ≡ None → IsUnclosed (b ∷ bs)
    at rest true e s f g = absurd (search rules)
    at rest false e true f g =
        let is : b ≡ 92 = search (tests, f) in
        rw is (rest true (none_more (quote_from true bs) g))
    at rest false e false f g = goes_on (eqb-false b 34 e) (eqb-false b 92 f) (rest false (none_more (quote_from false bs) g))

-- ---- characters

pub blank_cut : (bs after : List ℕ) (c n : ℕ) → bs ≡ encode_utf8 c ++ after → n ≡ length (encode_utf8 c) → (is_whitespace c && not (begins_bare_return bs)) ≡ true → IsSkipped (take n bs) (drop n bs)
blank_cut bs after c n e m h =
    rw (e, m, take_at (encode_utf8 c) after (length (encode_utf8 c)) refl, drop_at (encode_utf8 c) after (length (encode_utf8 c)) refl) (blank c (rw e at h))

pub unreadable_cut : (bs after : List ℕ) (c n : ℕ) → bs ≡ encode_utf8 c ++ after → n ≡ length (encode_utf8 c) → (is_whitespace c && not (begins_bare_return bs)) ≡ false → begins_token bs ≡ false → IsToken kind.Unreadable (take n bs) (drop n bs)
unreadable_cut bs after c n e m h k =
    let none : begins_token (encode_utf8 c ++ after) ≡ false = rw (← e) k in
    rw (e, m, take_at (encode_utf8 c) after (length (encode_utf8 c)) refl, drop_at (encode_utf8 c) after (length (encode_utf8 c)) refl) (unreadable c (rw e at h) none)

-- ---- operators

pub double_cut : (bs : List ℕ) (k : Kind) → double_of bs ≡ Some k → IsToken k (take 2 bs) (drop 2 bs)
double_cut [] k h = absurd (search rules)
double_cut (a ∷ []) k h = absurd (search rules)
double_cut (a ∷ b ∷ bs) k h = double h

pub single_cut : (bs : List ℕ) (k : Kind) → single_of bs ≡ Some k → double_of bs ≡ None → IsToken k (take 1 bs) (drop 1 bs)
single_cut [] k h n = absurd (search rules)
single_cut (a ∷ []) k h n = single h refl
single_cut (a ∷ b ∷ bs) k h n = single h (ap is_some n)

-- ---- texts

pub text_cut : (bs : List ℕ) (q : ℕ) → begins_with (λ b. b == 34) bs ≡ true → Some q ≡ option_map (λ n. 1 + n) (quote_from false (drop 1 bs)) → IsToken kind.Text (take (q + 1) bs) (drop (q + 1) bs)
text_cut [] q h e = absurd (false≢true h)
text_cut (b ∷ bs) q h e = at (quote_from false bs) (closed_of bs false) e
  where
    at : (o : Option ℕ) → ((n : ℕ) → o ≡ Some n → Closed false bs n) → Some q ≡ option_map (λ n. 1 + n) o → IsToken kind.Text (take (q + 1) (b ∷ bs)) (drop (q + 1) (b ∷ bs))
    at None closed f = absurd (search rules)
    at (Some n) closed f =
        let r = closed n refl in
        let is : b ≡ 34 = search (tests, h) in
        let far : q ≡ 1 + n = cc in
        let long : q + 1 ≡ suc (suc n) = omega (arith, far) in
        let front : take (suc n) bs ≡ take n bs ++ 34 ∷ [] = take-suc bs n 0 r.within ∙ ap (λ x. take n bs ++ x ∷ []) r.quote in
        rw (long, is, front) (text r.inside)

pub unclosed_cut : (bs : List ℕ) → begins_with (λ b. b == 34) bs ≡ true → None ≡ option_map (λ n. 1 + n) (quote_from false (drop 1 bs)) → IsToken kind.UnclosedText (take (length bs) bs) (drop (length bs) bs)
unclosed_cut [] h e = absurd (false≢true h)
unclosed_cut (b ∷ bs) h e = at (quote_from false bs) (unclosed_of bs false) e
  where
    at : (o : Option ℕ) → (o ≡ None → IsUnclosed bs) → None ≡ option_map (λ n. 1 + n) o → IsToken kind.UnclosedText (take (length (b ∷ bs)) (b ∷ bs)) (drop (length (b ∷ bs)) (b ∷ bs))
    at None left f =
        let is : b ≡ 34 = search (tests, h) in
        rw (is, take_all (length bs) bs (le_refl (length bs)), drop_of_length-le bs (le_refl (length bs))) (unclosed (left refl))
    at (Some n) left f = absurd (search rules)

-- ---- where the text may be cut

starts_low : (b : ℕ) → starts_word b ≡ true → b < 128
starts_low b h = grind (arith, tests)

pub word_low : (b : ℕ) → is_word_byte b ≡ true → b < 128
word_low b h = grind (arith, tests)

digit_low : (b : ℕ) → is_ascii_digit b ≡ true → b < 128
digit_low b h = grind (arith, tests)

pub word_boundary : (bs : List ℕ) (n : ℕ) → n ≡ 1 + prefix_len is_word_byte (drop 1 bs) → begins_with starts_word bs ≡ true → IsUtf8 bs → IsCharBoundary bs n
word_boundary [] n e h u = absurd (false≢true h)
word_boundary (b ∷ bs) n e h u = rw e (run_boundary is_word_byte word_low (b ∷ bs) 0 1 refl u (omega arith) (starts_low b h))

pub number_boundary : (bs : List ℕ) (n : ℕ) → n ≡ 1 + prefix_len is_ascii_digit (drop 1 bs) → begins_with is_ascii_digit bs ≡ true → IsUtf8 bs → IsCharBoundary bs n
number_boundary [] n e h u = absurd (false≢true h)
number_boundary (b ∷ bs) n e h u = rw e (run_boundary is_ascii_digit digit_low (b ∷ bs) 0 1 refl u (omega arith) (digit_low b h))

pub slot_boundary : (bs : List ℕ) (n : ℕ) → n ≡ 2 + prefix_len is_word_byte (drop 2 bs) → begins_slot bs ≡ true → IsUtf8 bs → IsCharBoundary bs n
slot_boundary [] n e h u = absurd (false≢true h)
slot_boundary (a ∷ []) n e h u = absurd (false≢true (and_parts (a == 63) false h).1)
slot_boundary (a ∷ b ∷ bs) n e h u = rw e (run_boundary is_word_byte word_low (a ∷ b ∷ bs) 1 2 refl u (omega arith) (starts_low b (and_parts (a == 63) (starts_word b) h).1))

pub comment_boundary : (bs : List ℕ) (n : ℕ) → n ≡ 2 + prefix_len is_line_byte (drop 2 bs) → begins_comment bs ≡ true → IsCharBoundary bs n
comment_boundary [] n e h = absurd (false≢true h)
comment_boundary (a ∷ []) n e h = absurd (false≢true (and_parts (a == 47) false h).1)
comment_boundary (a ∷ b ∷ bs) n e h = rw e (line_boundary (a ∷ b ∷ bs) 2 (omega arith))

-- where the quote stands that closes a text
pub closing : (bs : List ℕ) (q : ℕ) → Some q ≡ option_map (λ n. 1 + n) (quote_from false (drop 1 bs)) → (q < length bs) × (get_or bs q 0 ≡ 34)
closing [] q e = absurd (search rules)
closing (b ∷ bs) q e = at (quote_from false bs) (closed_of bs false) e
  where
    at : (o : Option ℕ) → ((n : ℕ) → o ≡ Some n → Closed false bs n) → Some q ≡ option_map (λ n. 1 + n) o → (q < length (b ∷ bs)) × (get_or (b ∷ bs) q 0 ≡ 34)
    at None closed f = absurd (search rules)
    at (Some n) closed f =
        let r = closed n refl in
        let far : 1 + n ≡ q = cc in
        rw (← far, one-add) (omega (arith, r.within), r.quote)

pub text_boundary : (bs : List ℕ) (q : ℕ) → IsUtf8 bs → Some q ≡ option_map (λ n. 1 + n) (quote_from false (drop 1 bs)) → IsCharBoundary bs (q + 1)
text_boundary bs q u e =
    let r = closing bs q e in
    IsCharBoundary-after_ascii bs q u r.0 (omega (arith, r.1))

pub character_boundary : (bs after : List ℕ) (c n : ℕ) → bs ≡ encode_utf8 c ++ after → n ≡ length (encode_utf8 c) → IsUtf8 bs → IsCharBoundary bs n
character_boundary bs after c n e m u =
    let all : IsCharBoundary bs (length (encode_utf8 c)) = IsCharBoundary-at_seam bs (encode_utf8 c) after e (IsUtf8-past_char bs after c u e) in
    rw m all
