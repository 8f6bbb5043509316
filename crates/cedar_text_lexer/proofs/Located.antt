-- A byte further: its line and its column.
use Rattle.std.proofs.Common.{◌≡◌, ℕ, ◌+◌, ◌<◌, ◌≤◌, Bool, true, false, cond, ◌==◌, List, length, get_or, refl, arith}
use Rattle.std.proofs.lemmas.List.Sums.{fold_more}
use Rattle.cedar_text_lexer.specs.declared.show.Position.{Position}
use Rattle.cedar_text_lexer.specs.Positions.{goes_on, behind, position_of}

pub at_more : (p : Position) (b : ℕ) → (behind p b).at ≡ p.at + 1
at_more p b = by (b == 10) (goes_on b)
  where
    by : (t g : Bool) → (cond t (record { at = p.at + 1; line = p.line + 1; column = 1; start = p.at + 1 }) (cond g (record p { at = p.at + 1 }) (record p { at = p.at + 1; column = p.column + 1 }))).at ≡ p.at + 1
    by true g = refl
    by false true = refl
    by false false = refl

pub line_more : (p : Position) (b k : ℕ) → p.line ≤ k → (behind p b).line ≤ k + 1
line_more p b k h = by (b == 10) (goes_on b)
  where
    by : (t g : Bool) → (cond t (record { at = p.at + 1; line = p.line + 1; column = 1; start = p.at + 1 }) (cond g (record p { at = p.at + 1 }) (record p { at = p.at + 1; column = p.column + 1 }))).line ≤ k + 1
    by true g = omega arith
    by false true = omega arith
    by false false = omega arith

pub column_more : (p : Position) (b k : ℕ) → p.column ≤ k → (behind p b).column ≤ k + 1
column_more p b k h = by (b == 10) (goes_on b)
  where
    by : (t g : Bool) → (cond t (record { at = p.at + 1; line = p.line + 1; column = 1; start = p.at + 1 }) (cond g (record p { at = p.at + 1 }) (record p { at = p.at + 1; column = p.column + 1 }))).column ≤ k + 1
    by true g = omega arith
    by false true = omega arith
    by false false = omega arith

pub located_none : (text : List ℕ) → record { at = 0; line = 1; column = 1; start = 0 } ≡ position_of text 0
unfolding position_of
located_none text = refl

pub located_more : (text : List ℕ) (i : ℕ) → i < length text → position_of text (i + 1) ≡ behind (position_of text i) (get_or text i 0)
unfolding position_of
located_more text i h = fold_more behind (record { at = 0; line = 1; column = 1; start = 0 }) text i 0 h
