-- An escape ends with an ASCII byte, and so a text may be cut behind it.
use Rattle.std.proofs.Common.{◌≡◌, ℕ, ◌+◌, ◌<◌, ◌≤◌, Bool, true, false, cond, ◌&&◌, ◌==◌, Option, Some, None, option_map, List, [], ◌∷◌, ◌++◌, length, get_or, drop, take, nat_lt, nat_le, refl, sym, ap, ◌∙◌, ◌⊎◌, inl, inr, arith, tests, rules, get_or-drop, length-drop, suc, encode_utf8, IsUtf8, IsCharBoundary}
use Rattle.std.specs.List.{prefix_len}
use Rattle.std.specs.Str.Parse.{digits_value}
use Rattle.std.proofs.lemmas.Bool.{cases_lt, and_parts, false≢true}
use Rattle.std.proofs.lemmas.Bool.Decides.{nat_tests}
use Rattle.std.proofs.lemmas.Str.{IsCharBoundary-after_ascii, encode_ascii}
use Rattle.cedar_text_lexer.specs.declared.escapes.Escape.{Escape}
use Rattle.cedar_text_lexer.specs.Escapes.{simple_of, is_hex, is_scalar, hex_at, digits_at, unicode_at, escape_at, escape_in}
use Rattle.cedar_text_lexer.specs.Scanning.{begins_with}
use Rattle.cedar_text_lexer.specs.Values.{IsNoPiece, unknown, alone}

-- the last byte is ASCII
pub record EndsLow (bs : List ℕ) (len : ℕ) : Type 0 where
  pub last : ℕ
  pub is_last : len ≡ last + 1
  pub within : last < length bs
  pub low : get_or bs last 0 < 128

some_if : (t : Bool) (r e : Escape) → cond t (Some r) None ≡ Some e → (t ≡ true) × (r ≡ e)
some_if true r e h = (refl, cc)
some_if false r e h = absurd (search rules)

hex_low : (b : ℕ) → is_hex b ≡ true → b < 128
hex_low b h = grind (arith, nat_tests)

simple_high : (b : ℕ) → 128 ≤ b → simple_of b ≡ None
simple_high b h = grind (arith, nat_tests)

simple_low : (b c : ℕ) → simple_of b ≡ Some c → b < 128
simple_low b c h = at (cases_lt b 128)
  where
    at : (b < 128) ⊎ (128 ≤ b) → b < 128
    at (inl lt) = lt
    at (inr ge) = let none = simple_high b ge in absurd (cc)

hex_ends : (bs : List ℕ) (e : Escape) → hex_at bs ≡ Some e → EndsLow (120 ∷ bs) e.len
unfolding hex_at
hex_ends [] e h = absurd (search rules)
hex_ends (a ∷ []) e h = absurd (search rules)
hex_ends (a ∷ b ∷ bs) e h =
    let r = some_if (is_hex a && (is_hex b && nat_lt (digits_value 16 (a ∷ b ∷ [])) 128)) (record { char = digits_value 16 (a ∷ b ∷ []); len = 3 }) e h in
    let second = (and_parts (is_hex b) (nat_lt (digits_value 16 (a ∷ b ∷ [])) 128) (and_parts (is_hex a) (is_hex b && nat_lt (digits_value 16 (a ∷ b ∷ [])) 128) r.0).1).0 in
    record { last = 2; is_last = sym (ap (λ (x : Escape). x.len) r.1); within = omega arith; low = hex_low b second }

-- the byte with which the rest begins
first_is : (k : ℕ) (xs : List ℕ) (n : ℕ) → begins_with (λ b. b == k) (drop n xs) ≡ true → (n < length xs) × (get_or xs n 0 ≡ k)
first_is k xs n h = at (drop n xs) refl h
  where
    at : (ys : List ℕ) → drop n xs ≡ ys → begins_with (λ b. b == k) ys ≡ true → (n < length xs) × (get_or xs n 0 ≡ k)
    at [] e f = absurd (false≢true f)
    at (y ∷ ys) e f =
        let is : y ≡ k = search (tests, f) in
        let there : get_or (drop n xs) 0 0 ≡ get_or xs (n + 0) 0 = get_or-drop n xs 0 0 in
        let here : get_or (drop n xs) 0 0 ≡ y = ap (λ (zs : List ℕ). get_or zs 0 0) e in
        let same : n + 0 ≡ n = omega arith in
        let long : length (drop n xs) ≡ length (y ∷ ys) = ap length e in
        (omega (arith, length-drop n xs), sym (ap (λ (m : ℕ). get_or xs m 0) same) ∙ sym there ∙ here ∙ is)

digits_ends : (bs : List ℕ) (n : ℕ) (e : Escape) → digits_at bs n ≡ Some e → EndsLow (117 ∷ 123 ∷ bs) e.len
unfolding digits_at
digits_ends bs n e h =
    let close = begins_with (λ b. b == 125) (drop n bs) in
    let right = is_scalar (digits_value 16 (take n bs)) in
    let r = some_if (nat_lt 0 n && (nat_le n 6 && (close && right))) (record { char = digits_value 16 (take n bs); len = n + 3 }) e h in
    let closes = (and_parts close right (and_parts (nat_le n 6) (close && right) (and_parts (nat_lt 0 n) (nat_le n 6 && (close && right)) r.0).1).1).0 in
    let brace = first_is 125 bs n closes in
    let long : n + 3 ≡ e.len = ap (λ (x : Escape). x.len) r.1 in
    record { last = suc (suc n); is_last = omega (arith, long); within = omega (arith, brace.0); low = omega (arith, brace.1) }

unicode_ends : (bs : List ℕ) (e : Escape) → unicode_at bs ≡ Some e → EndsLow (117 ∷ bs) e.len
unfolding unicode_at
unicode_ends [] e h = absurd (search rules)
unicode_ends (b ∷ bs) e h = at (b == 123) refl h
  where
    at : (t : Bool) → (b == 123) ≡ t → cond t (digits_at bs (prefix_len is_hex bs)) None ≡ Some e → EndsLow (117 ∷ b ∷ bs) e.len
    at true i f = let is : b ≡ 123 = search (tests, i) in rw is (digits_ends bs (prefix_len is_hex bs) e f)
    at false i f = absurd (search rules)

simple_ends : (b : ℕ) (bs : List ℕ) (o : Option ℕ) (e : Escape) → simple_of b ≡ o → option_map (λ c. record { char = c; len = 1 }) o ≡ Some e → EndsLow (b ∷ bs) e.len
simple_ends b bs None e i h = absurd (search rules)
simple_ends b bs (Some c) e i h =
    let same : record { char = c; len = 1 } ≡ e = cc in
    record { last = 0; is_last = sym (ap (λ (x : Escape). x.len) same); within = omega arith; low = simple_low b c i }

escape_ends : (bs : List ℕ) (e : Escape) → escape_at bs ≡ Some e → EndsLow bs e.len
unfolding escape_at
escape_ends [] e h = absurd (search rules)
escape_ends (b ∷ bs) e h = at (b == 120) refl (b == 117) refl h
  where
    at : (t : Bool) → (b == 120) ≡ t → (u : Bool) → (b == 117) ≡ u → cond t (hex_at bs) (cond u (unicode_at bs) (option_map (λ c. record { char = c; len = 1 }) (simple_of b))) ≡ Some e → EndsLow (b ∷ bs) e.len
    at true i u j f = let is : b ≡ 120 = search (tests, i) in rw is (hex_ends bs e f)
    at false i true j f = let is : b ≡ 117 = search (tests, j) in rw is (unicode_ends bs e f)
    at false i false j f = simple_ends b bs (simple_of b) e refl f

pub escape_in_ends : (in_pattern : Bool) (bs : List ℕ) (e : Escape) → escape_in in_pattern bs ≡ Some e → EndsLow bs e.len
unfolding escape_in
escape_in_ends in_pattern bs e h = at (in_pattern && begins_with (λ b. b == 42) bs) refl h
  where
    at : (t : Bool) → (in_pattern && begins_with (λ b. b == 42) bs) ≡ t → cond t (Some (record { char = 42; len = 1 })) (escape_at bs) ≡ Some e → EndsLow bs e.len
    at true i f =
        let star = first_is 42 bs 0 (and_parts in_pattern (begins_with (λ b. b == 42) bs) i).1 in
        let same : record { char = 42; len = 1 } ≡ e = cc in
        record { last = 0; is_last = sym (ap (λ (x : Escape). x.len) same); within = star.0; low = omega (arith, star.1) }
    at false i f = escape_ends bs e f

-- what begins with a backslash
pub whole_is : (rest after : List ℕ) (c : ℕ) → rest ≡ encode_utf8 c ++ after → c ≡ 92 → rest ≡ 92 ∷ after
whole_is rest after c e is = e ∙ ap (λ (x : List ℕ). x ++ after) (ap encode_utf8 is ∙ encode_ascii 92 (omega arith))

pub escape_boundary : (rest after : List ℕ) (len : ℕ) → rest ≡ 92 ∷ after → EndsLow after len → IsUtf8 rest → IsCharBoundary rest (len + 1)
escape_boundary rest after len e r u =
    let whole : IsUtf8 (92 ∷ after) = rw (← e) u in
    let cut : IsCharBoundary (92 ∷ after) (suc r.last + 1) = IsCharBoundary-after_ascii (92 ∷ after) (suc r.last) whole (omega (arith, r.within)) r.low in
    let same : suc r.last + 1 ≡ len + 1 = omega (arith, r.is_last) in
    rw (e, ← same) cut

pub unknown_at : (in_pattern : Bool) (rest after behind : List ℕ) (c n : ℕ) → rest ≡ 92 ∷ after → after ≡ encode_utf8 c ++ behind → n ≡ length (encode_utf8 c) → escape_in in_pattern after ≡ None → IsNoPiece in_pattern rest (n + 1)
unknown_at in_pattern rest after behind c n e f m h =
    let none : escape_in in_pattern (encode_utf8 c ++ behind) ≡ None = rw (← f) h in
    rw (e, f, m) (unknown c behind none)

pub alone_at : (in_pattern : Bool) (rest after : List ℕ) → rest ≡ 92 ∷ after → length after ≡ 0 → escape_in in_pattern after ≡ None → IsNoPiece in_pattern rest 1
alone_at in_pattern rest [] e z h = rw e (alone h)
alone_at in_pattern rest (b ∷ bs) e z h = absurd (omega arith)
