-- What is read of a text.
use Rattle.std.specs.Prelude.{◌≡◌, ℕ, ◌≤◌, List, [], ◌∷◌, length}
use Rattle.cedar_text_lexer.specs.Tokens.{IsTokens}
use Rattle.cedar_text_lexer.specs.declared.errors.ReadError.{ReadError}
use Rattle.cedar_text_lexer.specs.declared.errors.ReadError.TheVariants as error
use Rattle.cedar_text_lexer.specs.declared.tokens.Token.{Token}
use Rattle.cedar_expressions.specs.declared.expr.Expr.{Expr}
use Rattle.cedar_text_syntax.specs.Grammar.{IsExpression}
use Rattle.cedar_text_syntax.specs.Places.{IsInside, IsPlaced}
use Rattle.cedar_text_syntax.specs.Trees.{Tree, height, trees}
use Rattle.cedar_text_syntax.specs.declared.steps.Step.{Step}
use Rattle.cedar_text_parser.specs.Building.{Is}
use Rattle.cedar_text_parser.specs.Refusals.{AreRefused}
use Rattle.cedar_functions.specs.Functions.{Knowledge}
use Rattle.cedar_text_parser.specs.Calls.{CallsAreKnown, AreCallsRefused}
use Rattle.cedar_text_parser.specs.Sources.{Tokenized, with_tokens}
use Rattle.cedar_text_parser.specs.declared.errors.ParseError.{ParseError}
use Rattle.cedar_text_parser.specs.declared.errors.ParseError.TheVariants as parse
use Rattle.cedar_text_parser.specs.declared.reading.Four.{Four}

-- the steps make one tree, which the expression is
pub data IsOnly (source : Tokenized) : List Tree → Expr → Type 0 where
  only : {p : Tree} {x : Expr} → Is source x p → IsOnly source (p ∷ []) x

-- the steps make four trees, the latest first, which the expressions are
pub data AreFour (source : Tokenized) : List Tree → Four → Type 0 where
  four : {p a r c : Tree} {w x y z : Expr} → Is source w p → Is source x a → Is source y r → Is source z c →
      AreFour source (c ∷ r ∷ a ∷ p ∷ []) (record { principal = w; action = x; resource = y; condition = z })

-- the text's tokens derive a tree, which the expression is; it is no higher than the limit, each of its parts stands in
-- the text, inside what it is a part of, and each call in it is of a function that is known
pub data IsRead (k : Knowledge) (text : List ℕ) (limit : ℕ) (x : Expr) : Type 0 where
  is_read : {all : List Token} {p : Tree} → IsTokens 0 text all → IsExpression all p → height p ≤ limit →
      IsInside 0 (length text) p → Is (with_tokens text all) x p → CallsAreKnown k (with_tokens text all) p →
      IsRead k text limit x

-- out of memory; or the error stands at a token of the text or behind the last; or the tokens derive a tree, and one
-- of the steps that make it is refused
pub data IsUnread (text : List ℕ) : ReadError → Type 0 where
  for_memory : IsUnread text error.Memory
  in_syntax : {all : List Token} {r : ReadError} → IsTokens 0 text all → IsPlaced all r → IsUnread text r
  in_step : {all : List Token} {steps : List Step} {p : Tree} {r : ReadError} → IsTokens 0 text all →
      IsExpression all p → trees steps ≡ p ∷ [] → AreRefused (with_tokens text all) steps r → IsUnread text r

-- the text is unread; or its tokens derive a tree, and one of the steps that make it calls a function that isn't known
pub data IsNotParsed (k : Knowledge) (text : List ℕ) : ParseError → Type 0 where
  unread : {r : ReadError} → IsUnread text r → IsNotParsed k text (parse.Read r)
  in_call : {all : List Token} {steps : List Step} {p : Tree} {e : ParseError} → IsTokens 0 text all →
      IsExpression all p → trees steps ≡ p ∷ [] → AreCallsRefused k (with_tokens text all) steps e →
      IsNotParsed k text e

-- an error's place is within the text
abbrev pub IsWithin : List ℕ → ReadError → Type 0
IsWithin text error.Memory = Unit {0}
IsWithin text (error.Expected what found s e) = (s ≤ e) × (e ≤ length text)
IsWithin text (error.TooDeep n s e) = (s ≤ e) × (e ≤ length text)

abbrev pub IsPlaceWithin : List ℕ → ParseError → Type 0
IsPlaceWithin text (parse.Read r) = IsWithin text r
IsPlaceWithin text (parse.UnknownFunction f style near s e) = (s ≤ e) × (e ≤ length text)
IsPlaceWithin text (parse.WrongStyle f style s e) = (s ≤ e) × (e ≤ length text)
IsPlaceWithin text (parse.WrongNumberOfArguments f m n s e) = (s ≤ e) × (e ≤ length text)
