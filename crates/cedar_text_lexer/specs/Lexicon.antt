-- The tokens of the language: which bytes are a token of which kind, and which are none. A word, a number and an
-- operator are as long as they can be: what is behind does not go on with them. Of the bytes that are written as
-- numbers, 34 is `"`, 92 is `\`, 63 is `?` and 47 is `/`.
use Rattle.std.specs.Prelude.{◌≡◌, ◌≢◌, ℕ, IsTrue, IsFalse, Bool, not, ◌&&◌, Some, is_some, List, [], ◌∷◌, ◌++◌, encode_utf8}
use Rattle.std.specs.List.{list_all}
use Rattle.std.specs.Char.{is_ascii_digit, is_whitespace}
use Rattle.cedar_text_lexer.specs.declared.tokens.Kind.{Kind}
use Rattle.cedar_text_lexer.specs.declared.tokens.Kind.TheVariants as kind
use Rattle.cedar_text_lexer.specs.Operators.{operator_kind}
use Rattle.cedar_text_lexer.specs.Scanning.{begins_with, begins_token, begins_bare_return, is_line_byte}
use Rattle.cedar_text_lexer.specs.Words.{starts_word, is_word_byte, word_kind, slot_kind}

-- what may stand between quotes: a quote and a backslash only behind a backslash
pub data IsQuoted : List ℕ → Type 0 where
  empty : IsQuoted []
  plain : {b : ℕ} {bs : List ℕ} → b ≢ 34 → b ≢ 92 → IsQuoted bs → IsQuoted (b ∷ bs)
  escaped : {b : ℕ} {bs : List ℕ} → IsQuoted bs → IsQuoted (92 ∷ b ∷ bs)

-- what stands behind a quote that none closes: the same, up to the end or a last backslash
pub data IsUnclosed : List ℕ → Type 0 where
  ends : IsUnclosed []
  ends_escaping : IsUnclosed (92 ∷ [])
  goes_on : {b : ℕ} {bs : List ℕ} → b ≢ 34 → b ≢ 92 → IsUnclosed bs → IsUnclosed (b ∷ bs)
  goes_on_escaped : {b : ℕ} {bs : List ℕ} → IsUnclosed bs → IsUnclosed (92 ∷ b ∷ bs)

-- the bytes are a whole word: a letter or `_`, and all letters, digits and `_` behind it
pub record IsWord (b : ℕ) (bs after : List ℕ) : Type 0 where
  pub starts : IsTrue (starts_word b)
  pub all : IsTrue (list_all is_word_byte bs)
  pub stops : IsFalse (begins_with is_word_byte after)

-- the bytes are a whole number: a digit, and all digits behind it
pub record IsWholeNumber (b : ℕ) (bs after : List ℕ) : Type 0 where
  pub starts : IsTrue (is_ascii_digit b)
  pub all : IsTrue (list_all is_ascii_digit bs)
  pub stops : IsFalse (begins_with is_ascii_digit after)

-- the byte and the one behind it are an operator
abbrev pub makes_operator : ℕ → ℕ → Bool
makes_operator a b = is_some (operator_kind (a ∷ b ∷ []))

-- a character between tokens, where these bytes stand behind it: each blank but a bare carriage return
abbrev pub is_blank : ℕ → List ℕ → Bool
is_blank c after = is_whitespace c && not (begins_bare_return (encode_utf8 c ++ after))

-- the bytes are a token of this kind, where these others stand behind them
pub data IsToken : Kind → List ℕ → List ℕ → Type 0 where
  -- an identifier or a keyword
  word : {b : ℕ} {bs after : List ℕ} → IsWord b bs after → IsToken (word_kind (b ∷ bs)) (b ∷ bs) after
  -- `?` and a word
  slot : {b : ℕ} {bs after : List ℕ} → IsWord b bs after → IsToken (slot_kind (b ∷ bs)) (63 ∷ b ∷ bs) after
  number : {b : ℕ} {bs after : List ℕ} → IsWholeNumber b bs after → IsToken kind.Number (b ∷ bs) after
  text : {bs after : List ℕ} → IsQuoted bs → IsToken kind.Text (34 ∷ (bs ++ 34 ∷ [])) after
  unclosed : {bs : List ℕ} → IsUnclosed bs → IsToken kind.UnclosedText (34 ∷ bs) []
  -- an operator of two bytes
  double : {k : Kind} {a b : ℕ} {after : List ℕ} → operator_kind (a ∷ b ∷ []) ≡ Some k → IsToken k (a ∷ b ∷ []) after
  -- an operator of one byte, which with the next one is none of two
  single : {k : Kind} {a : ℕ} {after : List ℕ} →
      operator_kind (a ∷ []) ≡ Some k → IsFalse (begins_with (makes_operator a) after) → IsToken k (a ∷ []) after
  -- one character, no blank, with which no token and no comment begins
  unreadable : (c : ℕ) {after : List ℕ} →
      IsFalse (is_blank c after) → IsFalse (begins_token (encode_utf8 c ++ after)) →
      IsToken kind.Unreadable (encode_utf8 c) after

-- the bytes are a blank, which is one character, or a comment, which goes on to the end of its line
pub data IsSkipped : List ℕ → List ℕ → Type 0 where
  blank : (c : ℕ) {after : List ℕ} → IsTrue (is_blank c after) → IsSkipped (encode_utf8 c) after
  comment : {bs after : List ℕ} →
      IsTrue (list_all is_line_byte bs) → IsFalse (begins_with is_line_byte after) → IsSkipped (47 ∷ 47 ∷ bs) after
