-- What is due where a bracket is open.
use Rattle.std.specs.Prelude.{ℕ}
use Rattle.cedar_text_lexer.specs.declared.errors.Expected.{Expected}
use Rattle.cedar_text_lexer.specs.declared.errors.Expected.TheVariants as wanted
use Rattle.cedar_text_lexer.specs.declared.tokens.Kind.{Kind}
use Rattle.cedar_text_lexer.specs.declared.tokens.Kind.TheVariants as kind
use Rattle.cedar_text_syntax.specs.declared.steps.Bracketed.{Bracketed}
use Rattle.cedar_text_syntax.specs.declared.steps.Bracketed.TheVariants.{Set, Record, Call, Method}

-- what closes the bracket, where a token of this kind would end more than what stands in it; or else another thing
abbrev pub due : Expected → Expected → Kind → Expected
due closing other kind.CloseParen = closing
due closing other kind.CloseBracket = closing
due closing other kind.CloseBrace = closing
due closing other kind.Semicolon = closing
due closing other kind.End = closing
due closing other _ = other

-- what closes the brackets of this kind that stand from this byte on
abbrev pub closing_of : Bracketed → ℕ → Expected
closing_of Set s = wanted.ClosedBracket s
closing_of Record s = wanted.ClosedBrace s
closing_of (Call i k) s = wanted.ClosedCall s
closing_of (Method i) s = wanted.ClosedCall s
