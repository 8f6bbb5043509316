-- The order of texts is that of their characters: UTF-8 keeps it.
use Rattle.std.specs.Char.{encode_utf8}
use Rattle.std.specs.Str.{encode_utf8_all}
use Rattle.std.specs.Cmp.Lexicographic.{slice_cmp}
use Rattle.std.specs.Cmp.{nat_cmp_is}
use Rattle.std.specs.Ordering.{ordering_then, ordering_reverse}
use Rattle.std.proofs.Common.{◌≡◌, ◌∙◌, ◌⊎◌, inl, inr, ℕ, ◌+◌, ◌/◌, ◌%◌, ◌<◌, ◌≤◌, List, [], ◌∷◌, ◌++◌, refl, sym, ap, arith, Ordering, Less, Equal, Greater, nat_cmp, append_assoc, append-nil, lt-ltb, le-ltb}
use Rattle.std.proofs.lemmas.Bool.{cases_lt, cases_order}
use Rattle.std.proofs.lemmas.Cmp.{nat_list_cmp_total}

-- ---- characters

abbrev pub next : ℕ → ℕ
next bits = 128 + bits % 64

pub one : (c : ℕ) → c < 128 → encode_utf8 c ≡ c ∷ []
unfolding encode_utf8
one c h = rw (lt-ltb c 128 h) refl

pub two : (c : ℕ) → 128 ≤ c → c < 2048 → encode_utf8 c ≡ (192 + c / 64) ∷ next c ∷ []
unfolding encode_utf8
two c l h = rw (le-ltb c 128 l, lt-ltb c 2048 h) refl

pub three : (c : ℕ) → 2048 ≤ c → c < 65536 → encode_utf8 c ≡ (224 + c / 4096) ∷ next (c / 64) ∷ next c ∷ []
unfolding encode_utf8
three c l h =
    let low : 128 ≤ c = omega arith in
    rw (le-ltb c 128 low, le-ltb c 2048 l, lt-ltb c 65536 h) refl

pub four : (c : ℕ) → 65536 ≤ c → encode_utf8 c ≡ (240 + c / 262144) ∷ next (c / 4096) ∷ next (c / 64) ∷ next c ∷ []
unfolding encode_utf8
four c l =
    let low : 128 ≤ c = omega arith in
    let more : 2048 ≤ c = omega arith in
    rw (le-ltb c 128 low, le-ltb c 2048 more, le-ltb c 65536 l) refl

-- ---- lists of bytes

abbrev compared : List ℕ → List ℕ → Ordering
compared xs ys = slice_cmp nat_cmp xs ys

below : (x y : ℕ) → x < y → nat_cmp x y ≡ Less
below x y h = sym (nat_cmp_is x y Less h)

level : (x y : ℕ) → x ≡ y → nat_cmp x y ≡ Equal
level x y h = sym (nat_cmp_is x y Equal h)

above : (x y : ℕ) → y < x → nat_cmp x y ≡ Greater
above x y h = sym (nat_cmp_is x y Greater h)

first_below : (x y : ℕ) (xs ys : List ℕ) → x < y → compared (x ∷ xs) (y ∷ ys) ≡ Less
first_below x y xs ys h = ap (λ o. ordering_then o (compared xs ys)) (below x y h)

first_level : (x y : ℕ) (xs ys : List ℕ) → x ≡ y → compared xs ys ≡ Less → compared (x ∷ xs) (y ∷ ys) ≡ Less
first_level x y xs ys h rest = ap (λ o. ordering_then o (compared xs ys)) (level x y h) ∙ rest

after_same : (ps xs ys : List ℕ) → compared (ps ++ xs) (ps ++ ys) ≡ compared xs ys
after_same [] xs ys = refl
after_same (p ∷ ps) xs ys = ap (λ o. ordering_then o (compared (ps ++ xs) (ps ++ ys))) (level p p refl) ∙ after_same ps xs ys

-- ---- a lower character

-- the first bytes decide, or what follows them
by_first : (x y : ℕ) (xs ys : List ℕ) → (x < y) ⊎ ((x ≡ y) × (compared xs ys ≡ Less)) → compared (x ∷ xs) (y ∷ ys) ≡ Less
by_first x y xs ys h = elim h [ inl l ↦ first_below x y xs ys l | inr g ↦ first_level x y xs ys g.0 g.1 ]

last_below : (c d : ℕ) (xs ys : List ℕ) → c / 64 ≡ d / 64 → c < d → compared (next c ∷ xs) (next d ∷ ys) ≡ Less
last_below c d xs ys same h = first_below (next c) (next d) xs ys (omega arith)

middle_below : (c d : ℕ) (xs ys : List ℕ) → c / 4096 ≡ d / 4096 → c < d
    → compared (next (c / 64) ∷ next c ∷ xs) (next (d / 64) ∷ next d ∷ ys) ≡ Less
middle_below c d xs ys same h =
    by_first (next (c / 64)) (next (d / 64)) (next c ∷ xs) (next d ∷ ys)
    (elim (cases_lt (c / 64) (d / 64)) [
      | inl l ↦ inl (omega arith)
      | inr g ↦ let level : c / 64 ≡ d / 64 = omega arith in inr (ap next level, last_below c d xs ys level h)
    ])

upper_below : (c d : ℕ) (xs ys : List ℕ) → c / 262144 ≡ d / 262144 → c < d
    → compared (next (c / 4096) ∷ next (c / 64) ∷ next c ∷ xs) (next (d / 4096) ∷ next (d / 64) ∷ next d ∷ ys) ≡ Less
upper_below c d xs ys same h =
    by_first (next (c / 4096)) (next (d / 4096)) (next (c / 64) ∷ next c ∷ xs) (next (d / 64) ∷ next d ∷ ys)
    (elim (cases_lt (c / 4096) (d / 4096)) [
      | inl l ↦ inl (omega arith)
      | inr g ↦ let level : c / 4096 ≡ d / 4096 = omega arith in inr (ap next level, middle_below c d xs ys level h)
    ])

two_below : (c d : ℕ) (xs ys : List ℕ) → c < d → compared ((192 + c / 64) ∷ next c ∷ xs) ((192 + d / 64) ∷ next d ∷ ys) ≡ Less
two_below c d xs ys h =
    by_first (192 + c / 64) (192 + d / 64) (next c ∷ xs) (next d ∷ ys)
    (elim (cases_lt (c / 64) (d / 64)) [
      | inl l ↦ inl (omega arith)
      | inr g ↦ let level : c / 64 ≡ d / 64 = omega arith in inr (ap (λ n. 192 + n) level, last_below c d xs ys level h)
    ])

three_below : (c d : ℕ) (xs ys : List ℕ) → c < d
    → compared ((224 + c / 4096) ∷ next (c / 64) ∷ next c ∷ xs) ((224 + d / 4096) ∷ next (d / 64) ∷ next d ∷ ys) ≡ Less
three_below c d xs ys h =
    by_first (224 + c / 4096) (224 + d / 4096) (next (c / 64) ∷ next c ∷ xs) (next (d / 64) ∷ next d ∷ ys)
    (elim (cases_lt (c / 4096) (d / 4096)) [
      | inl l ↦ inl (omega arith)
      | inr g ↦ let level : c / 4096 ≡ d / 4096 = omega arith in inr (ap (λ n. 224 + n) level, middle_below c d xs ys level h)
    ])

four_below : (c d : ℕ) (xs ys : List ℕ) → c < d
    → compared ((240 + c / 262144) ∷ next (c / 4096) ∷ next (c / 64) ∷ next c ∷ xs) ((240 + d / 262144) ∷ next (d / 4096) ∷ next (d / 64) ∷ next d ∷ ys) ≡ Less
four_below c d xs ys h =
    by_first (240 + c / 262144) (240 + d / 262144) (next (c / 4096) ∷ next (c / 64) ∷ next c ∷ xs) (next (d / 4096) ∷ next (d / 64) ∷ next d ∷ ys)
    (elim (cases_lt (c / 262144) (d / 262144)) [
      | inl l ↦ inl (omega arith)
      | inr g ↦ let level : c / 262144 ≡ d / 262144 = omega arith in inr (ap (λ n. 240 + n) level, upper_below c d xs ys level h)
    ])

-- the first byte of a character is below a limit, or at least that
abbrev BeginsBelow : ℕ → ℕ → Type 0
BeginsBelow c limit = (b : ℕ) × (bs : List ℕ) × (encode_utf8 c ≡ b ∷ bs) × (b < limit)

abbrev BeginsFrom : ℕ → ℕ → Type 0
BeginsFrom c limit = (b : ℕ) × (bs : List ℕ) × (encode_utf8 c ≡ b ∷ bs) × (limit ≤ b)

apart : (c d limit : ℕ) (xs ys : List ℕ) → BeginsBelow c limit → BeginsFrom d limit → compared (encode_utf8 c ++ xs) (encode_utf8 d ++ ys) ≡ Less
apart c d limit xs ys (b, bs, p, l) (e, es, q, m) = (λ i. compared (p i ++ xs) (q i ++ ys)) ∙ first_below b e (bs ++ xs) (es ++ ys) (omega arith)

below_one : (c : ℕ) → c < 128 → BeginsBelow c 192
below_one c h = (c, [], one c h, omega arith)

below_two : (c : ℕ) → c < 2048 → BeginsBelow c 224
below_two c h = elim (cases_lt c 128) [
  | inl m ↦ (c, [], one c m, omega arith)
  | inr m ↦ (192 + c / 64, next c ∷ [], two c m h, omega arith)
]

below_three : (c : ℕ) → c < 65536 → BeginsBelow c 240
below_three c h = elim (cases_lt c 2048) [
  | inl m ↦ let (b, bs, p, l) = below_two c m in (b, bs, p, omega arith)
  | inr m ↦ (224 + c / 4096, next (c / 64) ∷ next c ∷ [], three c m h, omega arith)
]

from_two : (c : ℕ) → 128 ≤ c → c < 2048 → BeginsFrom c 192
from_two c l h = (192 + c / 64, next c ∷ [], two c l h, omega arith)

from_three : (c : ℕ) → 2048 ≤ c → c < 65536 → BeginsFrom c 224
from_three c l h = (224 + c / 4096, next (c / 64) ∷ next c ∷ [], three c l h, omega arith)

from_four : (c : ℕ) → 65536 ≤ c → BeginsFrom c 240
from_four c l = (240 + c / 262144, next (c / 4096) ∷ next (c / 64) ∷ next c ∷ [], four c l, omega arith)

module _ (c d : ℕ) (xs ys : List ℕ) (h : c < d) where
  ones : d < 128 → compared (encode_utf8 c ++ xs) (encode_utf8 d ++ ys) ≡ Less
  ones l = (λ i. compared (one c (omega arith) i ++ xs) (one d l i ++ ys)) ∙ first_below c d xs ys h

  twos : 128 ≤ d → d < 2048 → compared (encode_utf8 c ++ xs) (encode_utf8 d ++ ys) ≡ Less
  twos l m = elim (cases_lt c 128) [
    | inl k ↦ apart c d 192 xs ys (below_one c k) (from_two d l m)
    | inr k ↦ (λ i. compared (two c k (omega arith) i ++ xs) (two d l m i ++ ys)) ∙ two_below c d xs ys h
  ]

  threes : 2048 ≤ d → d < 65536 → compared (encode_utf8 c ++ xs) (encode_utf8 d ++ ys) ≡ Less
  threes l m = elim (cases_lt c 2048) [
    | inl k ↦ apart c d 224 xs ys (below_two c k) (from_three d l m)
    | inr k ↦ (λ i. compared (three c k (omega arith) i ++ xs) (three d l m i ++ ys)) ∙ three_below c d xs ys h
  ]

  fours : 65536 ≤ d → compared (encode_utf8 c ++ xs) (encode_utf8 d ++ ys) ≡ Less
  fours l = elim (cases_lt c 65536) [
    | inl k ↦ apart c d 240 xs ys (below_three c k) (from_four d l)
    | inr k ↦ (λ i. compared (four c k i ++ xs) (four d l i ++ ys)) ∙ four_below c d xs ys h
  ]

  -- a character below another one begins a text below
  character_below : compared (encode_utf8 c ++ xs) (encode_utf8 d ++ ys) ≡ Less
  character_below = elim (cases_lt d 128) [
    | inl l ↦ ones l
    | inr l ↦ elim (cases_lt d 2048) [
      | inl m ↦ twos l m
      | inr m ↦ elim (cases_lt d 65536) [ inl n ↦ threes m n | inr n ↦ fours n ]
    ]
  ]

character_above : (c d : ℕ) (xs ys : List ℕ) → d < c → compared (encode_utf8 c ++ xs) (encode_utf8 d ++ ys) ≡ Greater
character_above c d xs ys h =
    nat_list_cmp_total.antisymm (encode_utf8 c ++ xs) (encode_utf8 d ++ ys) ∙ ap ordering_reverse (character_below d c ys xs h)

-- ---- texts

-- the first characters decide, or what follows them
characters_compared : (c d : ℕ) (xs ys : List ℕ) → compared (encode_utf8 c ++ xs) (encode_utf8 d ++ ys) ≡ ordering_then (nat_cmp c d) (compared xs ys)
characters_compared c d xs ys = elim (cases_order c d) [
  | inl e ↦
      (λ i. compared (encode_utf8 (e i) ++ xs) (encode_utf8 d ++ ys))
      ∙ after_same (encode_utf8 d) xs ys ∙ ap (λ o. ordering_then o (compared xs ys)) (sym (level c d e))
  | inr l ↦ elim l [
    | inl m ↦ character_below c d xs ys m ∙ ap (λ o. ordering_then o (compared xs ys)) (sym (below c d m))
    | inr m ↦ character_above c d xs ys m ∙ ap (λ o. ordering_then o (compared xs ys)) (sym (above c d m))
  ]
]

pub begins : (c : ℕ) → (b : ℕ) × (bs : List ℕ) × (encode_utf8 c ≡ b ∷ bs)
begins c = elim (cases_lt c 65536) [
  | inl l ↦ let (b, bs, p, m) = below_three c l in (b, bs, p)
  | inr l ↦ let (b, bs, p, m) = from_four c l in (b, bs, p)
]

pub texts_ordered : (cs ds : List ℕ) → slice_cmp nat_cmp (encode_utf8_all cs) (encode_utf8_all ds) ≡ slice_cmp nat_cmp cs ds
texts_ordered [] [] = refl
texts_ordered [] (d ∷ ds) = let (b, bs, p) = begins d in λ i. compared [] (p i ++ encode_utf8_all ds)
texts_ordered (c ∷ cs) [] = let (b, bs, p) = begins c in λ i. compared (p i ++ encode_utf8_all cs) []
texts_ordered (c ∷ cs) (d ∷ ds) =
    characters_compared c d (encode_utf8_all cs) (encode_utf8_all ds) ∙ ap (ordering_then (nat_cmp c d)) (texts_ordered cs ds)

-- one character more
pub one_more : (cs : List ℕ) (d : ℕ) → encode_utf8_all (cs ++ (d ∷ [])) ≡ encode_utf8_all cs ++ encode_utf8 d
one_more [] d = append-nil (encode_utf8 d)
one_more (c ∷ cs) d = ap (λ bs. encode_utf8 c ++ bs) (one_more cs d) ∙ sym (append_assoc (encode_utf8 c) (encode_utf8_all cs) (encode_utf8 d))
