-- Whether one text is in another, in characters, is whether its bytes have a place among those of the other.
use Rattle.std.specs.Prelude.{nat_lt}
use Rattle.std.specs.Char.{encode_utf8}
use Rattle.std.specs.Str.{encode_utf8_all}
use Rattle.std.proofs.Common.{◌≡◌, ◌∙◌, ◌⊎◌, inl, inr, ℕ, ◌+◌, ◌/◌, ◌<◌, ◌≤◌, Bool, true, false, cond, not, ◌&&◌, ◌||◌, ◌==◌, List, [], ◌∷◌, ◌++◌, length, refl, sym, ap, subst, arith, append_assoc, eq-eqb, ne_eqb, lt-ltb, true≢false}
use Rattle.std.proofs.lemmas.Bool.{cases_lt}
use Rattle.std.proofs.lemmas.Bool.Decides.{Decides-eqb}
use Rattle.std.proofs.lemmas.Str.{encode_same}
use Rattle.sqlite_sql.specs.Text.{is_continuation, begins_with, place_from, place_of}
use Rattle.cedar_sql.proofs.Utf8.{next, one, two, three, four, begins}
use Rattle.cedar_sql.proofs.Matching.{starts, stands_in}

-- ---- bytes that begin with others

eqb_turned : (x y : ℕ) (q : Bool) → (q ≡ true → x ≡ y) → (x ≡ y → q ≡ true) → (y == x) ≡ q
eqb_turned x y true so back = eq-eqb y x (sym (so refl))
eqb_turned x y false so back = ne_eqb y x (λ e. true≢false (sym (back (sym e))))

pub begins_is : (p t : List ℕ) → begins_with p t ≡ starts p t
begins_is [] t = refl
begins_is (x ∷ p) [] = refl
begins_is (x ∷ p) (y ∷ t) = λ i. eqb_turned x y (x == y) (Decides-eqb x y).0 (Decides-eqb x y).1 i && begins_is p t i

starts_same : (ps xs ys : List ℕ) → starts (ps ++ xs) (ps ++ ys) ≡ starts xs ys
starts_same [] xs ys = refl
starts_same (p ∷ ps) xs ys = ap (λ q. q && starts (ps ++ xs) (ps ++ ys)) (eq-eqb p p refl) ∙ starts_same ps xs ys

and_first : (a b : Bool) → (a && b) ≡ true → a ≡ true
and_first true b is = refl
and_first false b is = is

and_second : (a b : Bool) → (a && b) ≡ true → b ≡ true
and_second true b is = is
and_second false b is = absurd (cc)

starts_rest : (xs ys : List ℕ) → starts xs ys ≡ true → (rest : List ℕ) × (ys ≡ xs ++ rest)
starts_rest [] ys is = (ys, refl)
starts_rest (x ∷ xs) [] is = absurd (cc)
starts_rest (x ∷ xs) (y ∷ ys) is =
    let (rest, same) = starts_rest xs ys (and_second (x == y) (starts xs ys) is) in
    let first : x ≡ y = (Decides-eqb x y).0 (and_first (x == y) (starts xs ys) is) in
    (rest, λ i. sym first i ∷ same i)

false_unless : (b : Bool) → (b ≡ true → ⊥) → b ≡ false
false_unless true not = absurd (not refl)
false_unless false not = refl

-- ---- characters

starts_apart : (c d : ℕ) (xs ys : List ℕ) → (c ≡ d → ⊥) → starts (encode_utf8 c ++ xs) (encode_utf8 d ++ ys) ≡ true → ⊥
starts_apart c d xs ys other is =
    let (rest, same) = starts_rest (encode_utf8 c ++ xs) (encode_utf8 d ++ ys) is in
    other (sym (encode_same d c ys (xs ++ rest) (same ∙ append_assoc (encode_utf8 c) xs rest)).0)

starts_character : (q : Bool) (c d : ℕ) (xs ys : List ℕ) → (q ≡ true → c ≡ d) → (c ≡ d → q ≡ true)
    → starts (encode_utf8 c ++ xs) (encode_utf8 d ++ ys) ≡ (q && starts xs ys)
starts_character true c d xs ys so back =
    (λ i. starts (encode_utf8 (so refl i) ++ xs) (encode_utf8 d ++ ys)) ∙ starts_same (encode_utf8 d) xs ys
starts_character false c d xs ys so back =
    false_unless (starts (encode_utf8 c ++ xs) (encode_utf8 d ++ ys)) (starts_apart c d xs ys (λ e. true≢false (sym (back e))))

pub starts_texts : (cs ds : List ℕ) → starts (encode_utf8_all cs) (encode_utf8_all ds) ≡ starts cs ds
starts_texts [] ds = refl
starts_texts (c ∷ cs) [] = let (b, bs, p) = begins c in λ i. starts (p i ++ encode_utf8_all cs) []
starts_texts (c ∷ cs) (d ∷ ds) =
    starts_character (c == d) c d (encode_utf8_all cs) (encode_utf8_all ds) (Decides-eqb c d).0 (Decides-eqb c d).1
    ∙ ap (λ b. (c == d) && b) (starts_texts cs ds)

-- ---- places

-- a place is where a character begins
abbrev pub counts : ℕ → Bool
counts b = not (is_continuation b)

-- a first byte is no continuation, and any other is one
leads : (b : ℕ) → (b < 128) ⊎ (192 ≤ b) → is_continuation b ≡ false
leads b h = elim h [ inl l ↦ ne_eqb (b / 64) 2 (λ e. omega arith) | inr l ↦ ne_eqb (b / 64) 2 (λ e. omega arith) ]

goes_on : (bits : ℕ) → is_continuation (next bits) ≡ true
goes_on bits = eq-eqb (next bits / 64) 2 (omega arith)

module _ (part : List ℕ) where
  at_first : (at b : ℕ) (bs : List ℕ) → is_continuation b ≡ false
      → place_from counts part at (b ∷ bs) ≡ cond (begins_with part (b ∷ bs)) at (place_from counts part (at + 1) bs)
  at_first at b bs is = λ i. cond (not (is i)) (cond (begins_with part (b ∷ bs)) at (place_from counts part (at + 1) bs)) (place_from counts part at bs)

  at_other : (at bits : ℕ) (bs : List ℕ) → place_from counts part at (next bits ∷ bs) ≡ place_from counts part at bs
  at_other at bits bs =
      λ i. cond (not (goes_on bits i)) (cond (begins_with part (next bits ∷ bs)) at (place_from counts part (at + 1) bs)) (place_from counts part at bs)

  abbrev IsPlace : ℕ → List ℕ → List ℕ → Type 0
  IsPlace at bs rest = place_from counts part at (bs ++ rest) ≡ cond (begins_with part (bs ++ rest)) at (place_from counts part (at + 1) rest)

  place_one : (at c : ℕ) (rest : List ℕ) → c < 128 → IsPlace at (c ∷ []) rest
  place_one at c rest h = at_first at c rest (leads c (inl h))

  place_two : (at b c : ℕ) (rest : List ℕ) → 192 ≤ b → IsPlace at (b ∷ next c ∷ []) rest
  place_two at b c rest h =
      at_first at b (next c ∷ rest) (leads b (inr h)) ∙ ap (cond (begins_with part (b ∷ next c ∷ rest)) at) (at_other (at + 1) c rest)

  place_three : (at b c d : ℕ) (rest : List ℕ) → 192 ≤ b → IsPlace at (b ∷ next c ∷ next d ∷ []) rest
  place_three at b c d rest h =
      at_first at b (next c ∷ next d ∷ rest) (leads b (inr h))
      ∙ ap (cond (begins_with part (b ∷ next c ∷ next d ∷ rest)) at) (at_other (at + 1) c (next d ∷ rest) ∙ at_other (at + 1) d rest)

  place_four : (at b c d e : ℕ) (rest : List ℕ) → 192 ≤ b → IsPlace at (b ∷ next c ∷ next d ∷ next e ∷ []) rest
  place_four at b c d e rest h =
      at_first at b (next c ∷ next d ∷ next e ∷ rest) (leads b (inr h))
      ∙ ap (cond (begins_with part (b ∷ next c ∷ next d ∷ next e ∷ rest)) at)
      (at_other (at + 1) c (next d ∷ next e ∷ rest) ∙ at_other (at + 1) d (next e ∷ rest) ∙ at_other (at + 1) e rest)

  place_character : (at c : ℕ) (rest : List ℕ) → IsPlace at (encode_utf8 c) rest
  place_character at c rest = elim (cases_lt c 128) [
    | inl l ↦ subst (λ (bs : List ℕ). IsPlace at bs rest) (sym (one c l)) (place_one at c rest l)
    | inr l ↦ elim (cases_lt c 2048) [
      | inl m ↦ subst (λ (bs : List ℕ). IsPlace at bs rest) (sym (two c l m)) (place_two at (192 + c / 64) c rest (omega arith))
      | inr m ↦ elim (cases_lt c 65536) [
        | inl n ↦ subst (λ (bs : List ℕ). IsPlace at bs rest) (sym (three c m n)) (place_three at (224 + c / 4096) (c / 64) c rest (omega arith))
        | inr n ↦ subst (λ (bs : List ℕ). IsPlace at bs rest) (sym (four c n)) (place_four at (240 + c / 262144) (c / 4096) (c / 64) c rest (omega arith))
      ]
    ]
  ]

abbrev pub is_place : ℕ → Bool
is_place n = nat_lt 0 n

-- the first character decides, or there is a place behind it
place_so : (q s : Bool) (at n : ℕ) → 0 < at → is_place n ≡ s → is_place (cond q at n) ≡ (q || s)
place_so true s at n h more = lt-ltb 0 at h
place_so false s at n h more = more

place_from_is : (c : ℕ) (cs ds : List ℕ) (at : ℕ) → 0 < at
    → is_place (place_from counts (encode_utf8_all (c ∷ cs)) at (encode_utf8_all ds)) ≡ stands_in (c ∷ cs) ds
place_from_is c cs [] at h = refl
place_from_is c cs (d ∷ ds) at h =
    let part : List ℕ = encode_utf8_all (c ∷ cs) in
    let rest : List ℕ = encode_utf8_all ds in
    ap is_place (place_character part at d rest)
    ∙ place_so (begins_with part (encode_utf8 d ++ rest)) (stands_in (c ∷ cs) ds) at (place_from counts part (at + 1) rest) h
    (place_from_is c cs ds (at + 1) (omega arith))
    ∙ ap (λ b. b || stands_in (c ∷ cs) ds) (begins_is part (encode_utf8 d ++ rest) ∙ starts_texts (c ∷ cs) (d ∷ ds))

empty_stands : (ds : List ℕ) → true ≡ stands_in [] ds
empty_stands [] = refl
empty_stands (d ∷ ds) = refl

-- a text has a place in another where its characters stand in those of the other
pub place_is : (cs ds : List ℕ) → is_place (place_of counts (encode_utf8_all cs) (encode_utf8_all ds)) ≡ stands_in cs ds
place_is [] ds = empty_stands ds
place_is (c ∷ cs) ds =
    let (b, bs, p) = begins c in
    (λ i. is_place (cond (length (p i ++ encode_utf8_all cs) == 0) 1 (place_from counts (encode_utf8_all (c ∷ cs)) 1 (encode_utf8_all ds))))
    ∙ ap (λ q. is_place (cond q 1 (place_from counts (encode_utf8_all (c ∷ cs)) 1 (encode_utf8_all ds))))
    (ne_eqb (length (b ∷ (bs ++ encode_utf8_all cs))) 0 (λ e. omega arith))
    ∙ place_from_is c cs ds 1 (omega arith)
