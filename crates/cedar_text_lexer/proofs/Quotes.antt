-- A token of kind `Text` has a quote at each end.
use Rattle.std.proofs.Common.{◌≡◌, ℕ, suc, ◌+◌, ◌-◌, Bool, true, false, cond, Option, Some, None, List, [], ◌∷◌, ◌++◌, length, codes, bytes_eq, refl, sym, ap, ◌∙◌, arith, length-append, get_or-append-add}
use Rattle.std.proofs.lemmas.Bool.{false≢true}
use Rattle.cedar_text_lexer.specs.declared.tokens.Kind.{Kind}
use Rattle.cedar_text_lexer.specs.declared.tokens.Kind.TheVariants as kind
use Rattle.cedar_text_lexer.specs.Lexicon.{IsToken, word, slot, number, text, unclosed, double, single, unreadable}
use Rattle.cedar_text_lexer.specs.Operators.{operator_kind}
use Rattle.cedar_text_lexer.specs.Values.{HasQuotes}
use Rattle.cedar_text_lexer.specs.Words.{word_kind, slot_kind}

abbrev is_text : Kind → Bool
is_text kind.Text = true
is_text _ = false

abbrev is_some_text : Option Kind → Bool
is_some_text (Some k) = is_text k
is_some_text None = false

-- one row of the words, and one of the operators
row : (t : Bool) (k r : Kind) → is_text k ≡ false → is_text r ≡ false → is_text (cond t k r) ≡ false
row true k r h rest = h
row false k r h rest = rest

some_row : (t : Bool) (k : Kind) (r : Option Kind) → is_text k ≡ false → is_some_text r ≡ false → is_some_text (cond t (Some k) r) ≡ false
some_row true k r h rest = h
some_row false k r h rest = rest

word_no_text : (w : List ℕ) → is_text (word_kind w) ≡ false
word_no_text w =
    row (bytes_eq w (codes "permit")) kind.Permit _ refl (
    row (bytes_eq w (codes "forbid")) kind.Forbid _ refl (
    row (bytes_eq w (codes "when")) kind.When _ refl (
    row (bytes_eq w (codes "unless")) kind.Unless _ refl (
    row (bytes_eq w (codes "principal")) kind.Principal _ refl (
    row (bytes_eq w (codes "action")) kind.Action _ refl (
    row (bytes_eq w (codes "resource")) kind.Resource _ refl (
    row (bytes_eq w (codes "context")) kind.Context _ refl (
    row (bytes_eq w (codes "true")) kind.True _ refl (
    row (bytes_eq w (codes "false")) kind.False _ refl (
    row (bytes_eq w (codes "if")) kind.If _ refl (
    row (bytes_eq w (codes "then")) kind.Then _ refl (
    row (bytes_eq w (codes "else")) kind.Else _ refl (
    row (bytes_eq w (codes "in")) kind.In _ refl (
    row (bytes_eq w (codes "has")) kind.Has _ refl (
    row (bytes_eq w (codes "like")) kind.Like _ refl (
    row (bytes_eq w (codes "is")) kind.Is _ refl (
    row (bytes_eq w (codes "__cedar")) kind.Cedar _ refl (
    refl))))))))))))))))))

slot_no_text : (w : List ℕ) → is_text (slot_kind w) ≡ false
slot_no_text w =
    row (bytes_eq w (codes "principal")) kind.PrincipalSlot _ refl (row (bytes_eq w (codes "resource")) kind.ResourceSlot _ refl refl)

operator_no_text : (w : List ℕ) → is_some_text (operator_kind w) ≡ false
operator_no_text w =
    some_row (bytes_eq w (codes "@")) kind.At _ refl (
    some_row (bytes_eq w (codes "(")) kind.OpenParen _ refl (
    some_row (bytes_eq w (codes ")")) kind.CloseParen _ refl (
    some_row (bytes_eq w (codes "[")) kind.OpenBracket _ refl (
    some_row (bytes_eq w (codes "]")) kind.CloseBracket _ refl (
    some_row (bytes_eq w (codes "{")) kind.OpenBrace _ refl (
    some_row (bytes_eq w (codes "}")) kind.CloseBrace _ refl (
    some_row (bytes_eq w (codes ",")) kind.Comma _ refl (
    some_row (bytes_eq w (codes ";")) kind.Semicolon _ refl (
    some_row (bytes_eq w (codes ":")) kind.Colon _ refl (
    some_row (bytes_eq w (codes "::")) kind.Colons _ refl (
    some_row (bytes_eq w (codes ".")) kind.Dot _ refl (
    some_row (bytes_eq w (codes "||")) kind.Or _ refl (
    some_row (bytes_eq w (codes "&&")) kind.And _ refl (
    some_row (bytes_eq w (codes "==")) kind.Equal _ refl (
    some_row (bytes_eq w (codes "!=")) kind.NotEqual _ refl (
    some_row (bytes_eq w (codes "<")) kind.Less _ refl (
    some_row (bytes_eq w (codes "<=")) kind.LessEqual _ refl (
    some_row (bytes_eq w (codes ">")) kind.Greater _ refl (
    some_row (bytes_eq w (codes ">=")) kind.GreaterEqual _ refl (
    some_row (bytes_eq w (codes "!")) kind.Bang _ refl (
    some_row (bytes_eq w (codes "+")) kind.Plus _ refl (
    some_row (bytes_eq w (codes "-")) kind.Minus _ refl (
    some_row (bytes_eq w (codes "*")) kind.Star _ refl (
    refl))))))))))))))))))))))))

no_operator : (w : List ℕ) (k : Kind) → operator_kind w ≡ Some k → is_text k ≡ false
no_operator w k h = sym (ap is_some_text h) ∙ operator_no_text w

between : (bs : List ℕ) → HasQuotes (34 ∷ (bs ++ 34 ∷ []))
between bs =
    let long : length (bs ++ 34 ∷ []) ≡ length bs + 1 = length-append bs (34 ∷ []) in
    let before : suc (length (bs ++ 34 ∷ [])) - 1 ≡ suc (length bs + 0) = omega arith in
    record { long = omega arith; first = refl; last = rw before (get_or-append-add bs (34 ∷ []) 0 0) }

quotes_of : {k : Kind} {w after : List ℕ} → IsToken k w after → is_text k ≡ true → HasQuotes w
quotes_of (word {b = b} {bs = bs} x) e = absurd (false≢true (sym (word_no_text (b ∷ bs)) ∙ e))
quotes_of (slot {b = b} {bs = bs} x) e = absurd (false≢true (sym (slot_no_text (b ∷ bs)) ∙ e))
quotes_of (number x) e = absurd (false≢true e)
quotes_of (text {bs = bs} q) e = between bs
quotes_of (unclosed q) e = absurd (false≢true e)
quotes_of (double {k = k} {a = a} {b = b} h) e = absurd (false≢true (sym (no_operator (a ∷ b ∷ []) k h) ∙ e))
quotes_of (single {k = k} {a = a} h n) e = absurd (false≢true (sym (no_operator (a ∷ []) k h) ∙ e))
quotes_of (unreadable c x y) e = absurd (false≢true e)

pub text_quotes : (k : Kind) (w after : List ℕ) → IsToken k w after → k ≡ kind.Text → HasQuotes w
text_quotes k w after t e = quotes_of t (ap is_text e)

pub no_end : (k : Kind) → k ≡ kind.Text → k ≡ kind.End → ⊥
no_end k e f = cc
