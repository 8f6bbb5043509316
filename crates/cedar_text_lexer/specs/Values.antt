-- What tokens stand for.
use Rattle.std.specs.Prelude.{◌≡◌, ◌≢◌, ℕ, ◌+◌, ◌-◌, ◌≤◌, IsTrue, IsFalse, Bool, true, false, ◌==◌, if◌then◌else◌, Some, None, List, [], ◌∷◌, ◌++◌, length, drop, slice_index, slice_range, encode_utf8, IsCharBoundary}
use Rattle.cedar_text_lexer.specs.declared.escapes.Escape.{Escape}
use Rattle.cedar_text_lexer.specs.declared.escapes.Piece.{Piece}
use Rattle.cedar_text_lexer.specs.declared.values.PatternPart.{PatternPart}
use Rattle.cedar_text_lexer.specs.declared.values.PatternPart.TheVariants.{Char, Wildcard}
use Rattle.cedar_text_lexer.specs.declared.errors.Expected.TheVariants as wanted
use Rattle.cedar_text_lexer.specs.declared.errors.ReadError.{ReadError}
use Rattle.cedar_text_lexer.specs.declared.errors.ReadError.TheVariants as error
use Rattle.cedar_text_lexer.specs.declared.tokens.Kind.TheVariants as kind
use Rattle.cedar_text_lexer.specs.declared.tokens.Token.{Token}
use Rattle.cedar_text_lexer.specs.Escapes.{escape_in}
use Rattle.cedar_text_lexer.specs.Lexicon.{IsToken}
use Rattle.cedar_text_lexer.specs.Scanning.{begins_bare_return}

-- the token's own bytes
abbrev pub word_of : List ℕ → Token → List ℕ
word_of text token = slice_range text token.start token.end

-- the token is one of the text's
pub record Stands (text : List ℕ) (token : Token) : Type 0 where
  pub start : IsCharBoundary text token.start
  pub end : IsCharBoundary text token.end
  pub order : token.start ≤ token.end
  pub is : token.kind ≢ kind.End → IsToken token.kind (word_of text token) (drop token.end text)

-- a quote at each end
pub record HasQuotes (word : List ℕ) : Type 0 where
  pub long : 2 ≤ length word
  pub first : slice_index word 0 ≡ 34
  pub last : slice_index word (length word - 1) ≡ 34

-- what stands between a text's quotes
abbrev pub inside_of : List ℕ → List ℕ
inside_of word = slice_range word 1 (length word - 1)

-- with which character these bytes begin: one that stands there, or that an escape stands for
pub data IsPiece (in_pattern : Bool) : List ℕ → Piece → Type 0 where
  itself : (c : ℕ) (bs : List ℕ) → c ≢ 92 → IsFalse (begins_bare_return (encode_utf8 c ++ bs)) →
      IsPiece in_pattern (encode_utf8 c ++ bs) (record { char = c; is_escaped = false; len = length (encode_utf8 c) })
  escape : {bs : List ℕ} {e : Escape} → escape_in in_pattern bs ≡ Some e →
      IsPiece in_pattern (92 ∷ bs) (record { char = e.char; is_escaped = true; len = e.len + 1 })

-- the bytes begin with a backslash and a character, so many bytes, that are no escape; or with a bare carriage return
pub data IsNoPiece (in_pattern : Bool) : List ℕ → ℕ → Type 0 where
  unknown : (c : ℕ) (bs : List ℕ) → escape_in in_pattern (encode_utf8 c ++ bs) ≡ None →
      IsNoPiece in_pattern (92 ∷ (encode_utf8 c ++ bs)) (length (encode_utf8 c) + 1)
  alone : escape_in in_pattern [] ≡ None → IsNoPiece in_pattern (92 ∷ []) 1
  bare_return : {bs : List ℕ} → IsTrue (begins_bare_return bs) → IsNoPiece in_pattern bs 1

-- what stands between the quotes of a text stands for the text of these bytes
pub data IsTextOf : List ℕ → List ℕ → Type 0 where
  nothing : IsTextOf [] []
  next : {bs value : List ℕ} {p : Piece} →
      IsPiece false bs p → IsTextOf (drop p.len bs) value → IsTextOf bs (encode_utf8 p.char ++ value)

-- `*` is a wildcard where no escape stands for it
abbrev pub part_of : Piece → PatternPart
part_of p = if p.is_escaped then Char p.char else (if p.char == 42 then Wildcard else Char p.char)

-- what stands between the quotes of a pattern stands for these parts
pub data IsPatternOf : List ℕ → List PatternPart → Type 0 where
  no_part : IsPatternOf [] []
  next_part : {bs : List ℕ} {parts : List PatternPart} {p : Piece} →
      IsPiece true bs p → IsPatternOf (drop p.len bs) parts → IsPatternOf bs (part_of p ∷ parts)

-- the first n bytes can be read, and the m behind them are no escape
pub data IsRefused (in_pattern : Bool) : List ℕ → ℕ → ℕ → Type 0 where
  here : {bs : List ℕ} {m : ℕ} → IsNoPiece in_pattern bs m → IsRefused in_pattern bs 0 m
  later : {bs : List ℕ} {p : Piece} {n m : ℕ} →
      IsPiece in_pattern bs p → IsRefused in_pattern (drop p.len bs) n m → IsRefused in_pattern bs (p.len + n) m

-- from byte `start` up to byte `end` of the text stands no escape, where these bytes begin at byte `at`
pub data IsRefusedThere (in_pattern : Bool) (bs : List ℕ) (at : ℕ) : ℕ → ℕ → Type 0 where
  there : {n m : ℕ} → IsRefused in_pattern bs n m → IsRefusedThere in_pattern bs at (at + n) (at + n + m)

-- the error that says so; or memory ran out
abbrev pub IsRefusal : Bool → List ℕ → ℕ → ReadError → Type 0
IsRefusal in_pattern bs at error.Memory = Unit {0}
IsRefusal in_pattern bs at (error.Expected what found start end) =
    (what ≡ wanted.Escape) × (found ≡ kind.Text) × IsRefusedThere in_pattern bs at start end
IsRefusal in_pattern bs at (error.TooDeep limit start end) = ⊥
