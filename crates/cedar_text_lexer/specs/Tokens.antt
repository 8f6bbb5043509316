-- The tokens of a text.
use Rattle.std.specs.Prelude.{ℕ, ◌+◌, Option, Some, None, List, [], ◌∷◌, ◌++◌, length, take, drop}
use Rattle.cedar_text_lexer.specs.declared.tokens.Kind.{Kind}
use Rattle.cedar_text_lexer.specs.declared.tokens.Kind.TheVariants as kind
use Rattle.cedar_text_lexer.specs.declared.tokens.Token.{Token}
use Rattle.cedar_text_lexer.specs.Lexicon.{IsToken, IsSkipped}

-- the token of this kind that begins at byte `at` and has the bytes of the word
abbrev pub placed : Kind → ℕ → List ℕ → Token
placed k at word = record { kind = k; start = at; end = at + length word }

-- the tokens of these bytes, of which the first is number `at` of the text: each from its first byte up to the byte
-- behind its last, with blanks and comments alone between them, and one of kind `End` at the end
pub data IsTokens : ℕ → List ℕ → List Token → Type 0 where
  end : {at : ℕ} → IsTokens at [] (record { kind = kind.End; start = at; end = at } ∷ [])
  skips : {at : ℕ} {word after : List ℕ} {tokens : List Token} →
      IsSkipped word after → IsTokens (at + length word) after tokens → IsTokens at (word ++ after) tokens
  has : {at : ℕ} {k : Kind} {word after : List ℕ} {tokens : List Token} →
      IsToken k word after → IsTokens (at + length word) after tokens →
      IsTokens at (word ++ after) (placed k at word ∷ tokens)

-- so many bytes of these, the first, are a token of this kind, or are none
abbrev pub IsCut : List ℕ → Option Kind → ℕ → Type 0
IsCut bytes (Some k) len = IsToken k (take len bytes) (drop len bytes)
IsCut bytes None len = IsSkipped (take len bytes) (drop len bytes)
