-- Names and entities that stand alone.
use Rattle.std.specs.Prelude.{◌≡◌, ℕ, ◌+◌, List}
use Rattle.cedar_text_lexer.specs.Tokens.{IsTokens}
use Rattle.cedar_text_lexer.specs.declared.errors.ReadError.{ReadError}
use Rattle.cedar_text_lexer.specs.declared.errors.ReadError.TheVariants as error
use Rattle.cedar_text_lexer.specs.declared.tokens.Kind.TheVariants as kind
use Rattle.cedar_text_lexer.specs.declared.tokens.Token.{Token}
use Rattle.cedar_names.specs.declared.names.EntityUID.{EntityUID}
use Rattle.cedar_names.specs.declared.names.Name.{Name}
use Rattle.cedar_text_syntax.specs.Grammar.{IsPath}
use Rattle.cedar_text_syntax.specs.Places.{IsPlaced}
use Rattle.cedar_text_lexer.specs.Sequence.{kind_at, start_at, end_at}
use Rattle.cedar_text_parser.specs.Refusals.{IsRefused}
use Rattle.cedar_text_parser.specs.Sources.{with_tokens}
use Rattle.cedar_text_parser.specs.Wording.{IsNameAt, IsEntityAt}

-- the first tokens, up to number k, are a name
pub data StartsWithPath (all : List Token) (k : ℕ) : Type 0 where
  path_up_to : {s e : ℕ} → IsPath all 0 k s e → StartsWithPath all k

-- the text's tokens are this name alone
pub data IsNameRead (text : List ℕ) (f : Name) : Type 0 where
  name_read : {all : List Token} {k : ℕ} → IsTokens 0 text all → StartsWithPath all k → kind_at all k ≡ kind.End →
      IsNameAt (with_tokens text all) 0 k f → IsNameRead text f

-- the text's tokens are this entity alone: a name, `::` and a text in quotes
pub data IsEntityRead (text : List ℕ) (u : EntityUID) : Type 0 where
  entity_read : {all : List Token} {k : ℕ} → IsTokens 0 text all → StartsWithPath all k →
      kind_at all k ≡ kind.Colons → kind_at all (k + 1) ≡ kind.Text → kind_at all (k + 2) ≡ kind.End →
      IsEntityAt (with_tokens text all) 0 (k + 1) (start_at all 0) (end_at all (k + 1)) u → IsEntityRead text u

-- out of memory; or the error stands at a token of the text; or an escape is refused
pub data IsPathRefused (text : List ℕ) : ReadError → Type 0 where
  for_out_of_memory : IsPathRefused text error.Memory
  at_place : {all : List Token} {r : ReadError} → IsTokens 0 text all → IsPlaced all r → IsPathRefused text r
  at_escape : {all : List Token} {r : ReadError} → IsTokens 0 text all → IsRefused (with_tokens text all) r →
      IsPathRefused text r
