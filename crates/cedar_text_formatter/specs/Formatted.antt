-- What is promised of a text that is laid out anew.
use Rattle.std.specs.Prelude.{◌≡◌, ℕ, List, IsFalse, map}
use Rattle.cedar_text_lexer.specs.declared.tokens.Kind.{Kind}
use Rattle.cedar_text_lexer.specs.declared.tokens.Token.{Token}
use Rattle.cedar_text_lexer.specs.Tokens.{IsTokens}
use Rattle.cedar_text_lexer.specs.Values.{word_of}
use Rattle.cedar_text_formatter.specs.declared.formatting.FormatError.{FormatError}
use Rattle.cedar_text_formatter.specs.declared.formatting.FormatError.TheVariants as error
use Rattle.cedar_text_formatter.specs.Layout.{layout}
use Rattle.cedar_text_formatter.specs.Pieces.{Piece, IsPieces, are_readable}

-- both texts have the same pieces, tokens and comments, in the same order, and the second one is their layout
pub record IsFormatted (text formatted : List ℕ) : Type 0 where
  pub pieces : List Piece
  pub were : IsPieces text pieces
  pub are : IsPieces formatted pieces
  pub laid_out : formatted ≡ layout pieces

-- what is read of the text's tokens: the kind and the bytes of each
abbrev pub read_of : List ℕ → List Token → List (Kind × List ℕ)
read_of text tokens = map (λ t. (t.kind, word_of text t)) tokens

-- a token of the text can't be read
pub record IsUnreadable (text : List ℕ) : Type 0 where
  pub tokens : List Token
  pub of_text : IsTokens 0 text tokens
  pub unreadable : IsFalse (are_readable tokens)

-- the error that says so; or memory ran out
abbrev pub IsRefusal : List ℕ → FormatError → Type 0
IsRefusal text error.Memory = Unit {0}
IsRefusal text error.Unreadable = IsUnreadable text
