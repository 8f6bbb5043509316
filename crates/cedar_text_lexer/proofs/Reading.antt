-- A character more of a text or a pattern, and a digit more of a number.
use Rattle.std.proofs.Common.{◌≡◌, ℕ, ◌+◌, ◌-◌, ◌*◌, ◌<◌, ◌≤◌, List, [], ◌∷◌, ◌++◌, length, drop, take, map, encode_utf8, ap, ◌∙◌, subst, arith, append_assoc, length-drop, append-nil, take-append-drop, Bool, true, false, get_or}
use Rattle.std.specs.Char.{digit_value}
use Rattle.std.specs.Str.Parse.{digits_value}
use Rattle.std.specs.Int.Digits.{number_from_digits, number_from_digits_after}
use Rattle.std.proofs.lemmas.List.{map-append}
use Rattle.std.proofs.lemmas.Int.Digits.{digits_value_is, number_after_append, number_after_ge, digits_value_more}
use Rattle.cedar_text_lexer.specs.declared.escapes.Piece.{Piece}
use Rattle.cedar_text_lexer.specs.declared.values.PatternPart.{PatternPart}
use Rattle.cedar_text_lexer.specs.Values.{IsPiece, IsNoPiece, IsTextOf, nothing, next, IsPatternOf, no_part, next_part, part_of, IsRefused, here, later, IsRefusedThere, there}

-- what the rest stands for, behind this, is what the whole stands for
abbrev pub TextSoFar : List ℕ → List ℕ → List ℕ → Type 0
TextSoFar inside value rest = (more : List ℕ) → IsTextOf rest more → IsTextOf inside (value ++ more)

pub text_more : (inside value rest : List ℕ) (p : Piece) → TextSoFar inside value rest → IsPiece false rest p → TextSoFar inside (value ++ encode_utf8 p.char) (drop p.len rest)
text_more inside value rest p so_far h more r = rw append_assoc (so_far (encode_utf8 p.char ++ more) (next h r))

pub text_all : (inside value rest : List ℕ) → TextSoFar inside value rest → length rest ≡ 0 → IsTextOf inside value
text_all inside value [] so_far e = subst (λ (x : List ℕ). IsTextOf inside x) (append-nil value) (so_far [] nothing)
text_all inside value (b ∷ bs) so_far e = absurd (omega arith)

abbrev pub PatternSoFar : List ℕ → List PatternPart → List ℕ → Type 0
PatternSoFar inside parts rest = (more : List PatternPart) → IsPatternOf rest more → IsPatternOf inside (parts ++ more)

pub pattern_more : (inside : List ℕ) (parts : List PatternPart) (rest : List ℕ) (p : Piece) → PatternSoFar inside parts rest → IsPiece true rest p → PatternSoFar inside (parts ++ part_of p ∷ []) (drop p.len rest)
pattern_more inside parts rest p so_far h more r = rw append_assoc (so_far (part_of p ∷ more) (next_part h r))

pub pattern_all : (inside : List ℕ) (parts : List PatternPart) (rest : List ℕ) → PatternSoFar inside parts rest → length rest ≡ 0 → IsPatternOf inside parts
pattern_all inside parts [] so_far e = subst (λ (x : List PatternPart). IsPatternOf inside x) (append-nil parts) (so_far [] no_part)
pattern_all inside parts (b ∷ bs) so_far e = absurd (omega arith)

-- what is refused in the rest is refused in the whole
abbrev pub RefusedSoFar : Bool → List ℕ → List ℕ → Type 0
RefusedSoFar in_pattern inside rest = (n m : ℕ) → IsRefused in_pattern rest n m → IsRefused in_pattern inside (length inside - length rest + n) m

pub refused_more : (in_pattern : Bool) (inside rest : List ℕ) (p : Piece) → length rest ≤ length inside → p.len ≤ length rest → RefusedSoFar in_pattern inside rest → IsPiece in_pattern rest p → RefusedSoFar in_pattern inside (drop p.len rest)
refused_more in_pattern inside rest p within short so_far h n m r =
    let same : length inside - length rest + (p.len + n) ≡ length inside - length (drop p.len rest) + n = omega (arith, length-drop p.len rest) in
    subst (λ (k : ℕ). IsRefused in_pattern inside k m) same (so_far (p.len + n) m (later h r))

pub refusal : (in_pattern : Bool) (inside rest : List ℕ) (at m : ℕ) → RefusedSoFar in_pattern inside rest → IsNoPiece in_pattern rest m → IsRefusedThere in_pattern inside at (at + (length inside - length rest)) (at + (length inside - length rest) + m)
refusal in_pattern inside rest at m so_far h =
    let here_it_is : IsRefused in_pattern inside (length inside - length rest + 0) m = so_far 0 m (here h) in
    let same : length inside - length rest + 0 ≡ length inside - length rest = omega arith in
    there (rw same at here_it_is)

-- ---- numbers

digits_grow : (xs ys : List ℕ) → digits_value 10 xs ≤ digits_value 10 (xs ++ ys)
digits_grow xs ys =
    let whole : digits_value 10 (xs ++ ys) ≡ number_from_digits_after 10 (number_from_digits 10 (map digit_value xs)) (map digit_value ys) = digits_value_is 10 (xs ++ ys) ∙ (ap (number_from_digits 10) (map-append digit_value xs ys) ∙ number_after_append 10 0 (map digit_value xs) (map digit_value ys)) in
    let more = number_after_ge 10 (number_from_digits 10 (map digit_value xs)) (map digit_value ys) (omega arith) in
    omega (arith, whole, more, digits_value_is 10 xs)

-- where a digit more is too much, the whole is
pub too_large : (bs : List ℕ) (i v d largest : ℕ) → i < length bs → v ≡ digits_value 10 (take i bs) → d ≡ digit_value (get_or bs i 0) → largest < v * 10 + d → largest < digits_value 10 bs
too_large bs i v d largest within is digit much =
    let step = digits_value_more 10 bs i within in
    let grow : digits_value 10 (take (i + 1) bs) ≤ digits_value 10 (take (i + 1) bs ++ drop (i + 1) bs) = digits_grow (take (i + 1) bs) (drop (i + 1) bs) in
    let whole : digits_value 10 (take (i + 1) bs ++ drop (i + 1) bs) ≡ digits_value 10 bs = ap (digits_value 10) (take-append-drop (i + 1) bs) in
    omega (arith, step, grow, whole, is, digit)
