-- What a text begins with.
use Rattle.std.specs.Prelude.{◌≡◌, ℕ, IsTrue, IsFalse, List, ◌∷◌, ◌++◌, length, encode_utf8}
use Rattle.std.specs.List.{list_all}
use Rattle.cedar_text_lexer.specs.Lexicon.{IsToken, is_blank}
use Rattle.cedar_text_lexer.specs.Scanning.{begins_with, is_line_byte}
use Rattle.cedar_text_formatter.specs.declared.fronts.Front.{Front}
use Rattle.cedar_text_formatter.specs.declared.fronts.Front.TheVariants as front
use Rattle.cedar_text_formatter.specs.Pieces.{is_readable}

-- the bytes are a blank, which is one character, where these others stand behind them
pub data IsBlank : List ℕ → List ℕ → Type 0 where
  blank : (c : ℕ) {after : List ℕ} → IsTrue (is_blank c after) → IsBlank (encode_utf8 c) after

-- the bytes are a comment, up to the end of its line
pub data IsComment : List ℕ → List ℕ → Type 0 where
  comment : {bs after : List ℕ} →
      IsTrue (list_all is_line_byte bs) → IsFalse (begins_with is_line_byte after) → IsComment (47 ∷ 47 ∷ bs) after

-- the bytes are what is said of them, where these others stand behind them
abbrev pub IsFront : Front → List ℕ → List ℕ → Type 0
IsFront front.Blank word after = IsBlank word after
IsFront front.Comment word after = IsComment word after
IsFront (front.Token k) word after = IsTrue (is_readable k) × IsToken k word after

-- a character of so many bytes stands first
pub record BeginsWithChar (bytes : List ℕ) (len : ℕ) : Type 0 where
  pub c : ℕ
  pub after : List ℕ
  pub is : bytes ≡ encode_utf8 c ++ after
  pub long : len ≡ length (encode_utf8 c)
