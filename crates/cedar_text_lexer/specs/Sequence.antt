-- Tokens by their numbers.
use Rattle.std.specs.Prelude.{ℕ, List, slice_get, unwrap_or}
use Rattle.cedar_text_lexer.specs.declared.tokens.Kind.{Kind}
use Rattle.cedar_text_lexer.specs.declared.tokens.Kind.TheVariants as kind
use Rattle.cedar_text_lexer.specs.declared.tokens.Token.{Token}

-- the token of this number; behind the last one, one of kind `End` from byte 0 up to byte 0
unfoldable pub token_at : List Token → ℕ → Token
token_at all i = unwrap_or (slice_get all i) (record { kind = kind.End; start = 0; end = 0 })

abbrev pub kind_at : List Token → ℕ → Kind
kind_at all i = (token_at all i).kind

abbrev pub start_at : List Token → ℕ → ℕ
start_at all i = (token_at all i).start

abbrev pub end_at : List Token → ℕ → ℕ
end_at all i = (token_at all i).end
