-- The bytes of an operator are ASCII.
use Rattle.std.proofs.Common.{◌≡◌, ℕ, ◌&&◌, Bool, true, false, cond, Option, Some, List, [], ◌∷◌, refl, codes, nat_lt, bytes_eq, rules, tests, arith, IsUtf8, IsCharBoundary}
use Rattle.std.specs.List.{list_all}
use Rattle.std.proofs.lemmas.Bool.{and_parts}
use Rattle.std.proofs.lemmas.Slice.Eq.{bytes_eq-Decides}
use Rattle.std.proofs.lemmas.Str.{IsCharBoundary-after_ascii}
use Rattle.cedar_text_lexer.specs.declared.tokens.Kind.{Kind}
use Rattle.cedar_text_lexer.specs.declared.tokens.Kind.TheVariants as kind
use Rattle.cedar_text_lexer.specs.Operators.{operator_kind}
use Rattle.cedar_text_lexer.specs.Scanning.{double_of, single_of}

abbrev low : List ℕ → Bool
low bs = list_all (λ b. nat_lt b 128) bs

-- one row of the operators
row : (w t : List ℕ) (k j : Kind) (r : Option Kind) → low t ≡ true → (r ≡ Some j → low w ≡ true) → cond (bytes_eq w t) (Some k) r ≡ Some j → low w ≡ true
row w t k j r h rest = at (bytes_eq w t) (bytes_eq-Decides w t).0
  where
    at : (b : Bool) → (b ≡ true → w ≡ t) → cond b (Some k) r ≡ Some j → low w ≡ true
    at true is e = rw (is refl) h
    at false is e = rest e

operator_low : (w : List ℕ) (j : Kind) → operator_kind w ≡ Some j → low w ≡ true
operator_low w j =
    row w (codes "@") kind.At j _ refl (
    row w (codes "(") kind.OpenParen j _ refl (
    row w (codes ")") kind.CloseParen j _ refl (
    row w (codes "[") kind.OpenBracket j _ refl (
    row w (codes "]") kind.CloseBracket j _ refl (
    row w (codes "{") kind.OpenBrace j _ refl (
    row w (codes "}") kind.CloseBrace j _ refl (
    row w (codes ",") kind.Comma j _ refl (
    row w (codes ";") kind.Semicolon j _ refl (
    row w (codes ":") kind.Colon j _ refl (
    row w (codes "::") kind.Colons j _ refl (
    row w (codes ".") kind.Dot j _ refl (
    row w (codes "||") kind.Or j _ refl (
    row w (codes "&&") kind.And j _ refl (
    row w (codes "==") kind.Equal j _ refl (
    row w (codes "!=") kind.NotEqual j _ refl (
    row w (codes "<") kind.Less j _ refl (
    row w (codes "<=") kind.LessEqual j _ refl (
    row w (codes ">") kind.Greater j _ refl (
    row w (codes ">=") kind.GreaterEqual j _ refl (
    row w (codes "!") kind.Bang j _ refl (
    row w (codes "+") kind.Plus j _ refl (
    row w (codes "-") kind.Minus j _ refl (
    row w (codes "*") kind.Star j _ refl (
    λ h. absurd (search rules)))))))))))))))))))))))))

-- a text may be cut behind an operator
pub double_boundary : (bs : List ℕ) (k : Kind) → IsUtf8 bs → double_of bs ≡ Some k → IsCharBoundary bs 2
double_boundary [] k u h = absurd (search rules)
double_boundary (a ∷ []) k u h = absurd (search rules)
double_boundary (a ∷ b ∷ bs) k u h =
    let second = (and_parts (nat_lt b 128) true (and_parts (nat_lt a 128) (nat_lt b 128 && true) (operator_low (a ∷ b ∷ []) k h)).1).0 in
    IsCharBoundary-after_ascii (a ∷ b ∷ bs) 1 u (omega arith) (search (tests, second))

pub single_boundary : (bs : List ℕ) (k : Kind) → IsUtf8 bs → single_of bs ≡ Some k → IsCharBoundary bs 1
single_boundary [] k u h = absurd (search rules)
single_boundary (a ∷ bs) k u h =
    let first = (and_parts (nat_lt a 128) true (operator_low (a ∷ []) k h)).0 in
    IsCharBoundary-after_ascii (a ∷ bs) 0 u (omega arith) (search (tests, first))
