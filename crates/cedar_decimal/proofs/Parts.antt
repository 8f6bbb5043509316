-- Texts with a dot and without one.
use Rattle.std.proofs.Common.{◌≡◌, ℕ, ◌≤◌, Bool, true, false, ◌&&◌, cond, nat_le, List, [], Some, None, refl, arith, lit<, length, ap, ◌∙◌, ◌==◌}
use Rattle.std.specs.Borrow.{Bor}
use Rattle.std.specs.List.{before_first, after_first, position_or_len}
use Rattle.std.proofs.Math.ListN.{drop_of_length-le}
use Rattle.std.proofs.lemmas.Str.Pattern.{split_once_first, IsSplitOnceResult}
use Rattle.cedar_decimal.specs.Decimals.{unsigned_of, value_of_parts, ten_thousandths, is_numeral}

abbrev pub is_dot : ℕ → Bool
is_dot c = c == 46

pub split : (text : List ℕ) (whole fraction : Bor (List ℕ)) → IsSplitOnceResult 46 text (Some (whole, fraction)) →
    unsigned_of text ≡ value_of_parts whole.now fraction.now
split text whole fraction h =
    let (within, before, behind) = split_once_first 46 text (Some (whole, fraction)) h (lit< tt) in
    rw (before, behind) refl

-- no text is nothing behind the dot
pub no_fraction : (whole : List ℕ) → value_of_parts whole [] ≡ None
no_fraction whole = by (is_numeral whole)
  where
    by : (b : Bool) → cond (b && (is_numeral [] && nat_le (length {A = ℕ} []) 4)) (Some (ten_thousandths whole [])) None ≡ None
    by true = refl
    by false = refl

pub no_dot_from_end : (text : List ℕ) → length text ≤ position_or_len is_dot text → unsigned_of text ≡ None
no_dot_from_end text past =
    let none : after_first is_dot text ≡ [] = drop_of_length-le text (omega arith) in
    ap (value_of_parts (before_first is_dot text)) none ∙ no_fraction (before_first is_dot text)

pub no_dot : (text : List ℕ) → IsSplitOnceResult 46 text None → unsigned_of text ≡ None
no_dot text h =
    let past : position_or_len is_dot text ≡ length text = split_once_first 46 text None h (lit< tt) in
    no_dot_from_end text (omega arith)
