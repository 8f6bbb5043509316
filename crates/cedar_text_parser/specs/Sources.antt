-- A text and its tokens.
use Rattle.std.specs.Prelude.{ℕ, List}
use Rattle.std.specs.List.{All}
use Rattle.cedar_text_lexer.specs.Tokens.{IsTokens}
use Rattle.cedar_text_lexer.specs.Values.{Stands}
use Rattle.cedar_text_lexer.specs.declared.tokens.Token.{Token}

-- a text, and tokens
pub record Tokenized : Type 0 where
  pub text : List ℕ
  pub tokens : List Token

-- the text, with these tokens
abbrev pub with_tokens : List ℕ → List Token → Tokenized
with_tokens text all = record { text = text; tokens = all }

-- the tokens are those of the text, and each stands in it
pub record IsTokenized (source : Tokenized) : Type 0 where
  pub cut : IsTokens 0 source.text source.tokens
  pub stand : All (Stands source.text) source.tokens
