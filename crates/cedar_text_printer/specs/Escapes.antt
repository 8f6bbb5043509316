-- Texts and patterns in double quotes.
use Rattle.std.specs.Prelude.{ℕ, Bool, ◌||◌, ◌==◌, ◌+◌, ◌/◌, ◌%◌, List, [], ◌∷◌, ◌++◌, if◌then◌else◌, nat_lt, codes, flat_map}
use Rattle.std.specs.Char.{encode_utf8}
use Rattle.cedar_model.specs.Terms.{Text, PatternPart, character, wildcard}

-- the digit for n in base 16: 48 is `0`, and 87 + 10 is `a`
abbrev pub hex_digit : ℕ → ℕ
hex_digit n = if nat_lt n 10 then 48 + n else 87 + n

-- a control character, which no escape of one letter stands for: `\u{..}` with two digits
abbrev pub unicode_escape : ℕ → Text
unicode_escape b = codes "\\u{" ++ (hex_digit (b / 16) ∷ hex_digit (b % 16) ∷ 125 ∷ [])

-- whether the byte is a control character of ASCII
abbrev pub is_control : ℕ → Bool
is_control b = nat_lt b 32 || (b == 127)

-- a byte inside double quotes: 34 is `"`, 92 is `\`, and 10, 13, 9 and 0 are the end of a line, a return, a tab and zero
abbrev pub written_byte : ℕ → Text
written_byte b =
    if b == 34 then codes "\\\"" else (
    if b == 92 then codes "\\\\" else (
    if b == 10 then codes "\\n" else (
    if b == 13 then codes "\\r" else (
    if b == 9 then codes "\\t" else (
    if b == 0 then codes "\\0" else (
    if is_control b then unicode_escape b else
    b ∷ []))))))

-- a text inside double quotes
unfoldable pub written_escaped : Text → Text
written_escaped t = flat_map written_byte t

-- a text in double quotes
abbrev pub written_quoted : Text → Text
written_quoted t = 34 ∷ (written_escaped t ++ 34 ∷ [])

-- a part of a pattern inside double quotes: 42 is `*`, which stands for itself behind a `\`
abbrev pub pattern_part_text : PatternPart → Text
pattern_part_text (character c) = if c == 42 then codes "\\*" else written_escaped (encode_utf8 c)
pattern_part_text wildcard = 42 ∷ []

-- a pattern in double quotes
abbrev pub pattern_text : List PatternPart → Text
pattern_text ps = 34 ∷ (flat_map pattern_part_text ps ++ 34 ∷ [])
