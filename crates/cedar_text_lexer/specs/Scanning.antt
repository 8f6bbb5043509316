-- With what a text begins, and how far it goes on.
use Rattle.std.specs.Prelude.{ℕ, ◌+◌, Bool, false, not, ◌&&◌, ◌||◌, ◌==◌, if◌then◌else◌, Option, Some, None, is_some, option_map, List, [], ◌∷◌}
use Rattle.std.specs.Char.{is_ascii_digit}
use Rattle.cedar_text_lexer.specs.declared.tokens.Kind.{Kind}
use Rattle.cedar_text_lexer.specs.Operators.{operator_kind}
use Rattle.cedar_text_lexer.specs.Words.{starts_word}

-- the first byte passes the test
abbrev pub begins_with : (ℕ → Bool) → List ℕ → Bool
begins_with p [] = false
begins_with p (b ∷ bs) = p b

-- `?` and a word
abbrev pub begins_slot : List ℕ → Bool
begins_slot [] = false
begins_slot (b ∷ bs) = (b == 63) && begins_with starts_word bs

-- `//`
abbrev pub begins_comment : List ℕ → Bool
begins_comment [] = false
begins_comment (b ∷ bs) = (b == 47) && begins_with (λ c. c == 47) bs

-- the operator of one byte with which the bytes begin, if any
abbrev pub single_of : List ℕ → Option Kind
single_of [] = None
single_of (a ∷ bs) = operator_kind (a ∷ [])

-- the operator of two bytes
abbrev pub double_of : List ℕ → Option Kind
double_of [] = None
double_of (a ∷ []) = None
double_of (a ∷ b ∷ bs) = operator_kind (a ∷ b ∷ [])

-- an operator
abbrev pub begins_operator : List ℕ → Bool
begins_operator bs = is_some (double_of bs) || is_some (single_of bs)

-- a word, a number, a text, a slot, a comment or an operator
abbrev pub begins_token : List ℕ → Bool
begins_token bs =
    begins_with starts_word bs || (begins_with is_ascii_digit bs || (begins_with (λ b. b == 34) bs
    || (begins_slot bs || (begins_comment bs || begins_operator bs))))

-- a carriage return (13) that no line feed (10) follows
abbrev pub begins_bare_return : List ℕ → Bool
begins_bare_return [] = false
begins_bare_return (b ∷ bs) = (b == 13) && not (begins_with (λ c. c == 10) bs)

-- a byte of a comment's line: neither `\n` nor `\r`
abbrev pub is_line_byte : ℕ → Bool
is_line_byte b = not ((b == 10) || (b == 13))

-- the byte is a backslash, which escapes the next one, where none escapes the byte itself
abbrev pub escapes : Bool → ℕ → Bool
escapes escaped b = not escaped && (b == 92)

-- the byte is a quote, which closes a text, where no backslash escapes it
abbrev pub closes_text : Bool → ℕ → Bool
closes_text escaped b = not escaped && (b == 34)

-- how many bytes stand before the first quote that closes; whether a backslash escapes the first byte
abbrev pub quote_from : Bool → List ℕ → Option ℕ
quote_from escaped [] = None
quote_from escaped (b ∷ bs) =
    if closes_text escaped b then Some 0 else option_map (λ n. n + 1) (quote_from (escapes escaped b) bs)
