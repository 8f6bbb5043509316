-- What the escapes of texts and patterns stand for. Behind the backslash, 120 is `x` and 117 is `u`; 123 and 125 are
-- the braces, and 42 is `*`.
use Rattle.std.specs.Prelude.{ℕ, ◌+◌, Bool, ◌&&◌, ◌||◌, ◌==◌, if◌then◌else◌, Option, Some, None, option_map, List, [], ◌∷◌, take, drop, nat_lt, nat_le}
use Rattle.std.specs.List.{prefix_len}
use Rattle.std.specs.Char.{digit_value}
use Rattle.std.specs.Str.Parse.{digits_value}
use Rattle.cedar_text_lexer.specs.declared.escapes.Escape.{Escape}
use Rattle.cedar_text_lexer.specs.Scanning.{begins_with}

-- the character for which a backslash and this one stand: `\n`, `\r`, `\t` and `\0` for those of the numbers 10, 13, 9
-- and 0, and a backslash, a single and a double quote for themselves
abbrev pub simple_of : ℕ → Option ℕ
simple_of b =
    if b == 110 then Some 10 else (
    if b == 114 then Some 13 else (
    if b == 116 then Some 9 else (
    if b == 48 then Some 0 else (
    if b == 92 then Some 92 else (
    if b == 39 then Some 39 else (
    if b == 34 then Some 34 else
    None))))))

-- a hexadecimal digit
abbrev pub is_hex : ℕ → Bool
is_hex b = nat_lt (digit_value b) 16

-- the number of a character: none is a surrogate, or beyond the last plane
abbrev pub is_scalar : ℕ → Bool
is_scalar n = nat_lt n 0xD800 || (nat_le 0xE000 n && nat_lt n 0x110000)

-- behind `\x`: two hexadecimal digits, up to 7F
abbrev pub hex_of : ℕ → ℕ → Option Escape
hex_of a b =
    if is_hex a && (is_hex b && nat_lt (digits_value 16 (a ∷ b ∷ [])) 128)
    then Some (record { char = digits_value 16 (a ∷ b ∷ []); len = 3 })
    else None

unfoldable pub hex_at : List ℕ → Option Escape
hex_at [] = None
hex_at (a ∷ []) = None
hex_at (a ∷ b ∷ bs) = hex_of a b

-- one to six hexadecimal digits, n of them, and `}`; they write the number of a character
abbrev pub is_braced : List ℕ → ℕ → Bool
is_braced bs n =
    nat_lt 0 n && (nat_le n 6 && (begins_with (λ b. b == 125) (drop n bs) && is_scalar (digits_value 16 (take n bs))))

-- behind `\u{`: these
unfoldable pub digits_at : List ℕ → ℕ → Option Escape
digits_at bs n =
    if is_braced bs n
    then Some (record { char = digits_value 16 (take n bs); len = n + 3 })
    else None

-- behind `\u`
unfoldable pub unicode_at : List ℕ → Option Escape
unicode_at [] = None
unicode_at (b ∷ bs) = if b == 123 then digits_at bs (prefix_len is_hex bs) else None

-- the escape that these bytes, behind a backslash, begin with: its character, and how many of the bytes it has
unfoldable pub escape_at : List ℕ → Option Escape
escape_at [] = None
escape_at (b ∷ bs) =
    if b == 120 then hex_at bs else (
    if b == 117 then unicode_at bs else
    option_map (λ c. record { char = c; len = 1 }) (simple_of b))

-- the same in a pattern, where `\*` stands for `*`
unfoldable pub escape_in : Bool → List ℕ → Option Escape
escape_in in_pattern bs =
    if in_pattern && begins_with (λ b. b == 42) bs then Some (record { char = 42; len = 1 }) else escape_at bs
