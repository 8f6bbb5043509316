-- How far bytes go on that pass a test, and where a text may be cut.
use Rattle.std.proofs.Common.{◌≡◌, ℕ, zero, suc, ◌+◌, ◌<◌, ◌≤◌, Bool, true, false, cond, List, [], ◌∷◌, length, get_or, take, drop, refl, ap, sym, ◌∙◌, arith, one-add, get_or-drop, length-drop, add-zero, IsUtf8, IsCharBoundary, ◌⊎◌, inl, inr, tests}
use Rattle.std.specs.List.{list_all, prefix_len}
use Rattle.std.proofs.lemmas.Bool.{cases_lt}
use Rattle.std.proofs.lemmas.List.Sums.{prefix_len_passes, prefix_len_stops, prefix_len-le-length}
use Rattle.std.proofs.lemmas.Str.{IsCharBoundary-after_ascii, IsCharBoundary-before_ascii, IsCharBoundary-end}
use Rattle.cedar_text_lexer.specs.Scanning.{begins_with, is_line_byte}

module _ (p : ℕ → Bool) where
  -- the longest front that passes: each byte of it passes
  pub taken : (xs : List ℕ) → list_all p (take (prefix_len p xs) xs) ≡ true
  taken [] = refl
  taken (x ∷ xs) = at (p x) refl (taken xs)
    where
      at : (b : Bool) → p x ≡ b → list_all p (take (prefix_len p xs) xs) ≡ true → list_all p (take (cond b (1 + prefix_len p xs) 0) (x ∷ xs)) ≡ true
      at true e h = rw one-add (rw e h)
      at false e h = refl

  -- and what is behind does not go on
  pub stopped : (xs : List ℕ) → begins_with p (drop (prefix_len p xs) xs) ≡ false
  stopped [] = refl
  stopped (x ∷ xs) = at (p x) refl (stopped xs)
    where
      at : (b : Bool) → p x ≡ b → begins_with p (drop (prefix_len p xs) xs) ≡ false → begins_with p (drop (cond b (1 + prefix_len p xs) 0) (x ∷ xs)) ≡ false
      at true e h = rw one-add h
      at false e h = e

  -- a text may be cut behind bytes that are ASCII
  pub run_boundary : ((b : ℕ) → p b ≡ true → b < 128) → (bs : List ℕ) (i from : ℕ) → from ≡ i + 1 → IsUtf8 bs → from ≤ length bs → get_or bs i 0 < 128 → IsCharBoundary bs (from + prefix_len p (drop from bs))
  run_boundary ascii bs i from e u within low = at (prefix_len p (drop from bs)) (prefix_len_passes p (drop from bs)) (prefix_len-le-length p (drop from bs))
    where
      at : (n : ℕ) → ((k : ℕ) (d : ℕ) → k < n → p (get_or (drop from bs) k d) ≡ true) → n ≤ length (drop from bs) → IsCharBoundary bs (from + n)
      at zero passes le = rw (add-zero, e) (IsCharBoundary-after_ascii bs i u (omega arith) low)
      at (suc m) passes le =
          let pass : p (get_or bs (from + m) 0) ≡ true = sym (ap p (get_or-drop from bs m 0)) ∙ passes m 0 (omega arith) in
          let next : from + suc m ≡ from + m + 1 = omega arith in
          rw next (IsCharBoundary-after_ascii bs (from + m) u (omega (arith, length-drop from bs)) (ascii _ pass))

-- a byte that ends a line is ASCII
line_end_low : (b : ℕ) → is_line_byte b ≡ false → b < 128
line_end_low b e = grind (arith, tests)

-- a text may be cut where a line ends
pub line_boundary : (bs : List ℕ) (from : ℕ) → from ≤ length bs → IsCharBoundary bs (from + prefix_len is_line_byte (drop from bs))
line_boundary bs from within = at (prefix_len is_line_byte (drop from bs)) (prefix_len_stops is_line_byte (drop from bs) 0) (prefix_len-le-length is_line_byte (drop from bs)) (cases_lt (from + prefix_len is_line_byte (drop from bs)) (length bs))
  where
    at : (n : ℕ) → (n < length (drop from bs) → is_line_byte (get_or (drop from bs) n 0) ≡ false) → n ≤ length (drop from bs) → (from + n < length bs) ⊎ (length bs ≤ from + n) → IsCharBoundary bs (from + n)
    at n stops le (inl lt) =
        let stop : is_line_byte (get_or bs (from + n) 0) ≡ false = sym (ap is_line_byte (get_or-drop from bs n 0)) ∙ stops (omega (arith, length-drop from bs)) in
        IsCharBoundary-before_ascii bs (from + n) lt (line_end_low _ stop)
    at n stops le (inr ge) =
        let whole : from + n ≡ length bs = omega (arith, length-drop from bs) in
        rw whole (IsCharBoundary-end bs)
