-- How texts are told: what could be taken for another line, or for an order to a terminal, is shown as `\u{..}`.
use Rattle.std.specs.Prelude.{ℕ, Bool, false, ◌||◌, ◌&&◌, ◌==◌, not, List, [], ◌++◌, if◌then◌else◌, nat_lt, codes}
use Rattle.std.specs.Char.{encode_utf8}
use Rattle.std.specs.Fmt.{digits}

-- from this code to that one
abbrev pub is_between : ℕ → ℕ → ℕ → Bool
is_between first last c = not (nat_lt c first) && not (nat_lt last c)

-- a separator of lines or of paragraphs
abbrev pub is_separator : ℕ → Bool
is_separator c = c == 8232 || c == 8233

-- a mark of direction
abbrev pub is_direction : ℕ → Bool
is_direction c =
    c == 1564 || (c == 8206 || (c == 8207 || (is_between 8234 8238 c || is_between 8294 8297 c)))

-- a control character, or one of these
abbrev pub is_hidden : ℕ → Bool
is_hidden c = nat_lt c 32 || (is_between 127 159 c || (is_separator c || is_direction c))

-- a character as it is told
unfoldable pub told_character : ℕ → List ℕ
told_character c = if is_hidden c then codes "\\u{" ++ (digits 16 false c ++ codes "}") else encode_utf8 c

-- a text, and the same as it is told, character by character
pub data IsVisible : List ℕ → List ℕ → Type 0 where
  nothing_told : IsVisible [] []
  character_told : (c : ℕ) {text told : List ℕ} → IsVisible text told →
      IsVisible (encode_utf8 c ++ text) (told_character c ++ told)
