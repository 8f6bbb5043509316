-- Lines that begin with no decision's word.
use Rattle.std.proofs.Common.{◌≡◌, refl, sym, ap, subst, ◌∙◌, ◌+◌, ◌%◌, ◌/◌, ◌≤◌, ℕ, zero, suc, Bool, true, false, true≢false, cond, not, ◌&&◌, ◌||◌, ◌==◌, List, [], ◌∷◌, ◌++◌, codes, nat_lt, if◌then◌else◌, eqb-true, arith, Some, None}
use Rattle.std.specs.Char.{encode_utf8}
use Rattle.std.specs.Fmt.{digits, digits_onto, digit_glyph}
use Rattle.cedar_model.specs.Terms.{Text}
use Rattle.cedar_model.specs.Policies as model
use Rattle.cedar_model.specs.Policies.{allow, deny}
use Rattle.cedar_layers.specs.Policies.{PolicyView}
use Rattle.cedar_cli.specs.Named.{IsNameLine, IsLineWhere, AreNameLines, no_names, name_behind}
use Rattle.cedar_cli.specs.Printing.{word}
use Rattle.cedar_cli.specs.Visible.{told_character, is_hidden, IsVisible, nothing_told, character_told}
use Rattle.cedar_cli.specs.Authorized.{BeginsWithWord, HasNoWordBelow}

-- the first byte is that of no decision's word
abbrev pub starts_calm : Text → Bool
starts_calm [] = true
starts_calm (c ∷ cs) = not (c == 65) && (not (c == 68) && not (c == 85))

-- nor is the first of a line below
abbrev pub is_calm : Text → Bool
is_calm [] = true
is_calm (c ∷ cs) = (not (c == 10) || starts_calm cs) && is_calm cs

-- no line ends in the text
abbrev pub has_no_feed : Text → Bool
has_no_feed [] = true
has_no_feed (c ∷ cs) = not (c == 10) && has_no_feed cs

left_of : (a b : Bool) → (a && b) ≡ true → a ≡ true
left_of true b e = refl
left_of false b e = e

right_of : (a b : Bool) → (a && b) ≡ true → b ≡ true
right_of true b e = e
right_of false b e = absurd (true≢false (sym e))

pub both_of : (a b : Bool) → a ≡ true → b ≡ true → (a && b) ≡ true
both_of a b ea eb = ap (λ c. c && b) ea ∙ eb

-- ---- what a calm text has below

calm_below : (above below : Text) → is_calm (above ++ 10 ∷ below) ≡ true → starts_calm below ≡ true
calm_below [] below e = left_of (starts_calm below) (is_calm below) e
calm_below (c ∷ cs) below e =
    calm_below cs below (right_of (not (c == 10) || starts_calm (cs ++ 10 ∷ below)) (is_calm (cs ++ 10 ∷ below)) e)

no_word : (text : Text) → starts_calm text ≡ true → ¬ BeginsWithWord text
no_word text e (None, (rest, is)) = true≢false (sym e ∙ ap starts_calm is)
no_word text e (Some allow, (rest, is)) = true≢false (sym e ∙ ap starts_calm is)
no_word text e (Some deny, (rest, is)) = true≢false (sym e ∙ ap starts_calm is)

pub no_word_below : (text : Text) → is_calm text ≡ true → HasNoWordBelow text
no_word_below text e above below is =
    no_word below (calm_below above below (sym (ap is_calm is) ∙ e))

-- ---- what is put together

pub starts_behind : (xs ys : Text) → starts_calm xs ≡ true → starts_calm ys ≡ true → starts_calm (xs ++ ys) ≡ true
starts_behind [] ys ex ey = ey
starts_behind (x ∷ xs) ys ex ey = ex

or_kept : (a b c : Bool) → (a || b) ≡ true → (b ≡ true → c ≡ true) → (a || c) ≡ true
or_kept true b c e f = refl
or_kept false b c e f = f e

pub calm_behind : (xs ys : Text) → is_calm xs ≡ true → is_calm ys ≡ true → starts_calm ys ≡ true
    → is_calm (xs ++ ys) ≡ true
calm_behind [] ys ex ey es = ey
calm_behind (x ∷ xs) ys ex ey es =
    both_of _ _
    (or_kept (not (x == 10)) (starts_calm xs) (starts_calm (xs ++ ys)) (left_of _ (is_calm xs) ex)
    (λ s. starts_behind xs ys s es))
    (calm_behind xs ys (right_of (not (x == 10) || starts_calm xs) (is_calm xs) ex) ey es)

or_left : (a b : Bool) → a ≡ true → (a || b) ≡ true
or_left a b e = ap (λ c. c || b) e

-- a text without a line's end, and the end of its line
pub line_ends : (xs : Text) → has_no_feed xs ≡ true → is_calm (xs ++ codes "\n") ≡ true
line_ends [] e = refl
line_ends (x ∷ xs) e =
    both_of _ _ (or_left _ (starts_calm (xs ++ codes "\n")) (left_of _ (has_no_feed xs) e))
    (line_ends xs (right_of (not (x == 10)) (has_no_feed xs) e))

pub feedless_behind : (xs ys : Text) → has_no_feed xs ≡ true → has_no_feed ys ≡ true → has_no_feed (xs ++ ys) ≡ true
feedless_behind [] ys ex ey = ey
feedless_behind (x ∷ xs) ys ex ey =
    both_of _ _ (left_of _ (has_no_feed xs) ex)
    (feedless_behind xs ys (right_of (not (x == 10)) (has_no_feed xs) ex) ey)

-- ---- what is told of a text has no line's end

no_feed : (n : ℕ) → ¬ (n ≡ 10) → not (n == 10) ≡ true
no_feed n h = by (n == 10) refl
  where
    by : (b : Bool) → (n == 10) ≡ b → not b ≡ true
    by true e = absurd (h (eqb-true n 10 e))
    by false e = refl

pub digit_feedless : (d : ℕ) → not (digit_glyph false d == 10) ≡ true
digit_feedless d = by (nat_lt d 10)
  where
    by : (b : Bool) → not ((if b then 48 + d else 87 + d) == 10) ≡ true
    by true = no_feed (48 + d) (λ e. absurd (omega (arith, e)))
    by false = no_feed (87 + d) (λ e. absurd (omega (arith, e)))

digits_feedless : (k n : ℕ) (acc : Text) → has_no_feed acc ≡ true → has_no_feed (digits_onto k 16 false n acc) ≡ true
digits_feedless zero n acc e = e
digits_feedless (suc k) n acc e =
    let more = both_of _ _ (digit_feedless (n % 16)) e in
    by (n / 16 == 0) more (digits_feedless k (n / 16) (digit_glyph false (n % 16) ∷ acc) more)
  where
    by : (b : Bool) → has_no_feed (digit_glyph false (n % 16) ∷ acc) ≡ true
        → has_no_feed (digits_onto k 16 false (n / 16) (digit_glyph false (n % 16) ∷ acc)) ≡ true
        → has_no_feed (if b then digit_glyph false (n % 16) ∷ acc
        else digits_onto k 16 false (n / 16) (digit_glyph false (n % 16) ∷ acc)) ≡ true
    by true here later = here
    by false here later = later

bytes_feedless : (c : ℕ) → ¬ (c ≡ 10) → has_no_feed (encode_utf8 c) ≡ true
unfolding encode_utf8
bytes_feedless c h = by (nat_lt c 128) (nat_lt c 2048) (nat_lt c 65536)
  where
    big : (n m : ℕ) → 11 ≤ n → not (n + m == 10) ≡ true
    big n m g = no_feed (n + m) (λ e. absurd (omega (arith, e, g)))

    last : (m : ℕ) → has_no_feed ((128 + m) ∷ []) ≡ true
    last m = both_of _ _ (big 128 m (omega arith)) refl

    two : (m k : ℕ) → has_no_feed ((128 + m) ∷ (128 + k) ∷ []) ≡ true
    two m k = both_of _ _ (big 128 m (omega arith)) (last k)

    three : (m k j : ℕ) → has_no_feed ((128 + m) ∷ (128 + k) ∷ (128 + j) ∷ []) ≡ true
    three m k j = both_of _ _ (big 128 m (omega arith)) (two k j)

    by : (x y z : Bool) → has_no_feed (cond x (c ∷ []) (cond y ((192 + c / 64) ∷ (128 + c % 64) ∷ [])
        (cond z ((224 + c / 4096) ∷ (128 + c / 64 % 64) ∷ (128 + c % 64) ∷ [])
        ((240 + c / 262144) ∷ (128 + c / 4096 % 64) ∷ (128 + c / 64 % 64) ∷ (128 + c % 64) ∷ [])))) ≡ true
    by true y z = both_of _ _ (no_feed c h) refl
    by false true z = both_of _ _ (big 192 (c / 64) (omega arith)) (last (c % 64))
    by false false true = both_of _ _ (big 224 (c / 4096) (omega arith)) (two (c / 64 % 64) (c % 64))
    by false false false =
        both_of _ _ (big 240 (c / 262144) (omega arith)) (three (c / 4096 % 64) (c / 64 % 64) (c % 64))

character_feedless : (c : ℕ) → has_no_feed (told_character c) ≡ true
unfolding told_character digits
character_feedless c = by (is_hidden c) refl
  where
    by : (b : Bool) → is_hidden c ≡ b
        → has_no_feed (if b then codes "\\u{" ++ (digits_onto 64 16 false c [] ++ codes "}") else encode_utf8 c) ≡ true
    by true e = feedless_behind (digits_onto 64 16 false c []) (codes "}") (digits_feedless 64 c [] refl) refl
    by false e = bytes_feedless c (λ h. true≢false (sym (ap is_hidden h) ∙ e))

pub told_feedless : (text told : Text) → IsVisible text told → has_no_feed told ≡ true
told_feedless text told nothing_told = refl
told_feedless text told (character_told c {told = rest} more) =
    feedless_behind (told_character c) rest (character_feedless c) (told_feedless _ rest more)

-- ---- the lines of names

name_calm : (p : PolicyView) (line : Text) → IsNameLine p line → is_calm line ≡ true
name_calm p line is = ap is_calm is.is_line ∙ line_ends is.told (told_feedless _ is.told is.visible)

name_starts : (p : PolicyView) (line : Text) → IsNameLine p line → starts_calm line ≡ true
name_starts p line is = ap starts_calm is.is_line

where_calm : (b : Bool) (p : PolicyView) (line : Text) → IsLineWhere b p line → is_calm line ≡ true
where_calm false p line is = ap is_calm is
where_calm true p line is = name_calm p line is

where_starts : (b : Bool) (p : PolicyView) (line : Text) → IsLineWhere b p line → starts_calm line ≡ true
where_starts false p line is = ap starts_calm is
where_starts true p line is = name_starts p line is

names_calm : (is : Text → Bool) (ps : List PolicyView) (lines : Text) → AreNameLines is ps lines
    → is_calm lines ≡ true
names_calm is ps lines no_names = refl
names_calm is ps lines (name_behind {ps = before} {lines = above} more p line one) =
    calm_behind above line (names_calm is before above more) (where_calm (is p.id) p line one)
    (where_starts (is p.id) p line one)

names_start : (is : Text → Bool) (ps : List PolicyView) (lines : Text) → AreNameLines is ps lines
    → starts_calm lines ≡ true
names_start is ps lines no_names = refl
names_start is ps lines (name_behind {ps = before} {lines = above} more p line one) =
    starts_behind above line (names_start is before above more) (where_starts (is p.id) p line one)

-- ---- below a word

pub calm_names : (is : Text → Bool) (ps : List PolicyView) (names : Text) → AreNameLines is ps names
    → is_calm (codes "\nnote: this decision was due to the following policies:\n" ++ names) ≡ true
calm_names is ps names are = both_of _ _ (names_start is ps names are) (names_calm is ps names are)

pub calm_below_word : (d : model.Decision) (lines : Text) → is_calm lines ≡ true → starts_calm lines ≡ true
    → is_calm (word d ++ (codes "\n" ++ lines)) ≡ true
calm_below_word allow lines e s = both_of _ _ s e
calm_below_word deny lines e s = both_of _ _ s e
