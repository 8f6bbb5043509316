-- JSON values are printed on one line: no byte of what is printed is a line feed.
use Rattle.std.proofs.Common.{◌≡◌, refl, sym, ap, ◌∙◌, ◌+◌, ◌/◌, ◌%◌, ℕ, zero, suc, pos, Bool, true, false, true≢false, cond, not, ◌&&◌, ◌||◌, ◌==◌, nat_lt, if◌then◌else◌, eqb-true, List, [], ◌∷◌, ◌++◌, map, arith}
use Rattle.std.specs.Prelude.{◌≢◌, ⊤}
use Rattle.std.specs.Str.Iter.{LacksByte}
use Rattle.std.specs.Char.{digit_char}
use Rattle.std.specs.Fmt.{digits, digits_onto, digit_glyph, signed_decimal}
use Rattle.json.specs.Json.{Json, null, boolean, number, string, array, object, Items, no_items, item, Members, no_members, member}
use Rattle.json.specs.Token.{Token}
use Rattle.json.specs.Print.{escape_letter, escape_byte, escape, quoted, token_text, separator, print_from, print, ends, begins}
use Rattle.json.specs.Tree.{json_tokens, items_tokens, members_tokens}
use Rattle.json.specs.Value.{items_of}
use Rattle.cedar_model.specs.Terms.{Text}
use Rattle.cedar_cli.proofs.Lines.{has_no_feed}

-- ---- texts

both : (a b : Bool) → a ≡ true → b ≡ true → (a && b) ≡ true
both a b ea eb = ap (λ c. c && b) ea ∙ eb

first_of : (a b : Bool) → (a && b) ≡ true → a ≡ true
first_of true b e = refl
first_of false b e = e

second_of : (a b : Bool) → (a && b) ≡ true → b ≡ true
second_of true b e = e
second_of false b e = absurd (true≢false (sym e))

no_feed : (n : ℕ) → ¬ (n ≡ 10) → not (n == 10) ≡ true
no_feed n h = by (n == 10) refl
  where
    by : (b : Bool) → (n == 10) ≡ b → not b ≡ true
    by true e = absurd (h (eqb-true n 10 e))
    by false e = refl

behind : (xs ys : Text) → has_no_feed xs ≡ true → has_no_feed ys ≡ true → has_no_feed (xs ++ ys) ≡ true
behind [] ys ex ey = ey
behind (x ∷ xs) ys ex ey =
    both _ _ (first_of _ (has_no_feed xs) ex) (behind xs ys (second_of (not (x == 10)) (has_no_feed xs) ex) ey)

no_byte : (b : ℕ) → not (b == 10) ≡ true → b ≢ 10
no_byte b e is = true≢false (sym e ∙ ap (λ c. not (c == 10)) is)

pub lacks_feed : (bs : Text) → has_no_feed bs ≡ true → LacksByte 10 bs
lacks_feed [] e k within = absurd (omega (arith, within))
lacks_feed (b ∷ bs) e zero within = no_byte b (first_of _ (has_no_feed bs) e)
lacks_feed (b ∷ bs) e (suc k) within =
    lacks_feed bs (second_of (not (b == 10)) (has_no_feed bs) e) k (omega (arith, within))

-- ---- what stands in a string

letter_unbroken : (x : ℕ) → not (escape_letter x == 10) ≡ true
letter_unbroken x = by ((x == 34) || (x == 92)) refl
  where
    constant : (b8 b12 b10 b13 b9 : Bool)
        → not (cond b8 98 (cond b12 102 (cond b10 110 (cond b13 114 (cond b9 116 0)))) == 10) ≡ true
    constant true b12 b10 b13 b9 = refl
    constant false true b10 b13 b9 = refl
    constant false false true b13 b9 = refl
    constant false false false true b9 = refl
    constant false false false false true = refl
    constant false false false false false = refl

    by : (b : Bool) → ((x == 34) || (x == 92)) ≡ b
        → not (cond b x (cond (x == 8) 98 (cond (x == 12) 102 (cond (x == 10) 110 (cond (x == 13) 114
        (cond (x == 9) 116 0))))) == 10) ≡ true
    by true e = no_feed x (λ is. true≢false (sym e ∙ ap (λ y. (y == 34) || (y == 92)) is))
    by false e = constant (x == 8) (x == 12) (x == 10) (x == 13) (x == 9)

digit_unbroken : (d : ℕ) → not (digit_char d == 10) ≡ true
digit_unbroken d = by (nat_lt d 10)
  where
    by : (b : Bool) → not (cond b (48 + d) (87 + d) == 10) ≡ true
    by true = no_feed (48 + d) (λ e. absurd (omega (arith, e)))
    by false = no_feed (87 + d) (λ e. absurd (omega (arith, e)))

byte_unbroken : (x : ℕ) → has_no_feed (escape_byte x) ≡ true
unfolding escape_byte
byte_unbroken x = by (nat_lt 0 (escape_letter x)) (nat_lt x 32) refl
  where
    by : (letter low : Bool) → nat_lt x 32 ≡ low
        → has_no_feed (cond letter (92 ∷ escape_letter x ∷ [])
        (cond low (92 ∷ 117 ∷ 48 ∷ 48 ∷ digit_char (x / 16) ∷ digit_char (x % 16) ∷ []) (x ∷ []))) ≡ true
    by true low e = both _ _ (letter_unbroken x) refl
    by false true e = both _ _ (digit_unbroken (x / 16)) (both _ _ (digit_unbroken (x % 16)) refl)
    by false false e = both _ _ (no_feed x (λ is. true≢false (sym (ap (λ y. nat_lt y 32) is) ∙ e))) refl

escape_unbroken : (s : Text) → has_no_feed (escape s) ≡ true
escape_unbroken [] = refl
escape_unbroken (x ∷ s) = behind (escape_byte x) (escape s) (byte_unbroken x) (escape_unbroken s)

quoted_unbroken : (s : Text) → has_no_feed (quoted s) ≡ true
quoted_unbroken s = behind (escape s) (34 ∷ []) (escape_unbroken s) refl

-- ---- tokens

-- each token's text has none
abbrev AreUnbroken : List Token → Type 0
AreUnbroken [] = ⊤
AreUnbroken (t ∷ ts) = (has_no_feed (token_text t) ≡ true) × AreUnbroken ts

separated : (b : Bool) (t : Token) → has_no_feed (separator b t) ≡ true
separated b t = by (b && begins t)
  where
    by : (c : Bool) → has_no_feed (cond c (44 ∷ []) []) ≡ true
    by true = refl
    by false = refl

print_unbroken : (b : Bool) (ts : List Token) → AreUnbroken ts → has_no_feed (print_from b ts) ≡ true
unfolding print_from
print_unbroken b [] h = refl
print_unbroken b (t ∷ ts) h =
    behind (separator b t) (token_text t ++ print_from (ends t) ts) (separated b t)
    (behind (token_text t) (print_from (ends t) ts) h.0 (print_unbroken (ends t) ts h.1))

tokens_behind : (ts us : List Token) → AreUnbroken ts → AreUnbroken us → AreUnbroken (ts ++ us)
tokens_behind [] us h k = k
tokens_behind (t ∷ ts) us h k = (h.0, tokens_behind ts us h.1 k)

-- ---- values

-- the texts of the numbers in a value have none
abbrev mutual
  pub HasUnbroken : Json → Type 0
  HasUnbroken null = ⊤
  HasUnbroken (boolean b) = ⊤
  HasUnbroken (number s) = has_no_feed s ≡ true
  HasUnbroken (string s) = ⊤
  HasUnbroken (array js) = ItemsHave js
  HasUnbroken (object ms) = MembersHave ms

  pub ItemsHave : Items → Type 0
  ItemsHave no_items = ⊤
  ItemsHave (item j js) = HasUnbroken j × ItemsHave js

  pub MembersHave : Members → Type 0
  MembersHave no_members = ⊤
  MembersHave (member k j ms) = HasUnbroken j × MembersHave ms

mutual
  value_tokens : (j : Json) → HasUnbroken j → AreUnbroken (json_tokens j)
  value_tokens null h = (refl, tt)
  value_tokens (boolean true) h = (refl, tt)
  value_tokens (boolean false) h = (refl, tt)
  value_tokens (number s) h = (h, tt)
  value_tokens (string s) h = (quoted_unbroken s, tt)
  value_tokens (array js) h = (refl, items_unbroken js h)
  value_tokens (object ms) h = (refl, members_unbroken ms h)

  items_unbroken : (js : Items) → ItemsHave js → AreUnbroken (items_tokens js)
  items_unbroken no_items h = (refl, tt)
  items_unbroken (item j js) h =
      tokens_behind (json_tokens j) (items_tokens js) (value_tokens j h.0) (items_unbroken js h.1)

  members_unbroken : (ms : Members) → MembersHave ms → AreUnbroken (members_tokens ms)
  members_unbroken no_members h = (refl, tt)
  members_unbroken (member k j ms) h = (
    behind (quoted k) (58 ∷ []) (quoted_unbroken k) refl,
    tokens_behind (json_tokens j) (members_tokens ms) (value_tokens j h.0) (members_unbroken ms h.1),
  )

pub printed_unbroken : (j : Json) → HasUnbroken j → has_no_feed (print (json_tokens j)) ≡ true
printed_unbroken j h = print_unbroken false (json_tokens j) (value_tokens j h)

-- ---- numbers

glyph_unbroken : (d : ℕ) → not (digit_glyph false d == 10) ≡ true
glyph_unbroken d = by (nat_lt d 10)
  where
    by : (b : Bool) → not ((if b then 48 + d else 87 + d) == 10) ≡ true
    by true = no_feed (48 + d) (λ e. absurd (omega (arith, e)))
    by false = no_feed (87 + d) (λ e. absurd (omega (arith, e)))

digits_unbroken : (k n : ℕ) (acc : Text) → has_no_feed acc ≡ true
    → has_no_feed (digits_onto k 10 false n acc) ≡ true
digits_unbroken zero n acc e = e
digits_unbroken (suc k) n acc e =
    let more = both _ _ (glyph_unbroken (n % 10)) e in
    by (n / 10 == 0) more (digits_unbroken k (n / 10) (digit_glyph false (n % 10) ∷ acc) more)
  where
    by : (b : Bool) → has_no_feed (digit_glyph false (n % 10) ∷ acc) ≡ true
        → has_no_feed (digits_onto k 10 false (n / 10) (digit_glyph false (n % 10) ∷ acc)) ≡ true
        → has_no_feed (if b then digit_glyph false (n % 10) ∷ acc
        else digits_onto k 10 false (n / 10) (digit_glyph false (n % 10) ∷ acc)) ≡ true
    by true here later = here
    by false here later = later

pub count_unbroken : (n : ℕ) → has_no_feed (signed_decimal (pos n)) ≡ true
unfolding digits
count_unbroken n = digits_unbroken 64 n [] refl

-- ---- lists of values

pub texts_have : (ts : List Text) → ItemsHave (items_of (map string ts))
texts_have [] = tt
texts_have (t ∷ ts) = (tt, texts_have ts)
