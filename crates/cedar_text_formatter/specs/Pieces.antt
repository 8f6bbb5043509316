-- The pieces of a text: its tokens and its comments in their order, without the blanks between them.
use Rattle.std.specs.Prelude.{ℕ, IsTrue, IsFalse, Bool, true, false, List, [], ◌∷◌, ◌++◌, encode_utf8}
use Rattle.std.specs.List.{list_all}
use Rattle.cedar_text_lexer.specs.declared.tokens.Kind.{Kind}
use Rattle.cedar_text_lexer.specs.declared.tokens.Kind.TheVariants as kind
use Rattle.cedar_text_lexer.specs.declared.tokens.Token.{Token}
use Rattle.cedar_text_lexer.specs.Lexicon.{IsToken, is_blank}
use Rattle.cedar_text_lexer.specs.Scanning.{begins_with, is_line_byte}

-- a comment, with its `//`, or a token of this kind; and its bytes
pub data Piece : Type 0 where
  comment : List ℕ → Piece
  token : Kind → List ℕ → Piece

-- a token that can be read
abbrev pub is_readable : Kind → Bool
is_readable kind.Unreadable = false
is_readable kind.UnclosedText = false
is_readable _ = true

-- each of these tokens can be read
abbrev pub are_readable : List Token → Bool
are_readable tokens = list_all (λ t. is_readable t.kind) tokens

-- the bytes can be read, and these are their pieces: tokens are those of the lexer, and a comment goes on to the end
-- of its line
pub data IsPieces : List ℕ → List Piece → Type 0 where
  end : IsPieces [] []
  skips : (c : ℕ) {after : List ℕ} {pieces : List Piece} →
      IsTrue (is_blank c after) → IsPieces after pieces → IsPieces (encode_utf8 c ++ after) pieces
  notes : {bs after : List ℕ} {pieces : List Piece} →
      IsTrue (list_all is_line_byte bs) → IsFalse (begins_with is_line_byte after) → IsPieces after pieces →
      IsPieces (47 ∷ 47 ∷ (bs ++ after)) (comment (47 ∷ 47 ∷ bs) ∷ pieces)
  has : {k : Kind} {word after : List ℕ} {pieces : List Piece} →
      IsTrue (is_readable k) → IsToken k word after → IsPieces after pieces →
      IsPieces (word ++ after) (token k word ∷ pieces)
