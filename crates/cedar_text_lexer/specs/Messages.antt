-- What is told of a text that can't be read, but for the place.
use Rattle.std.specs.Prelude.{ℕ, Bool, not, ◌&&◌, ◌||◌, ◌==◌, nat_lt, nat_le, if◌then◌else◌, List, [], ◌++◌, length, min, codes, decimal, bytes_eq, slice_index, slice_range, ◌-◌}
use Rattle.std.specs.List.{list_all}
use Rattle.cedar_text_lexer.specs.declared.errors.Expected.{Expected}
use Rattle.cedar_text_lexer.specs.declared.errors.Expected.TheVariants as wanted
use Rattle.cedar_text_lexer.specs.declared.errors.ReadError.{ReadError}
use Rattle.cedar_text_lexer.specs.declared.errors.ReadError.TheVariants as error
use Rattle.cedar_text_lexer.specs.declared.messages.Fault.{Fault}
use Rattle.cedar_text_lexer.specs.declared.messages.Fault.TheVariants as fault
use Rattle.cedar_text_lexer.specs.declared.show.Position.{Position}
use Rattle.cedar_text_lexer.specs.declared.tokens.Kind.{Kind}
use Rattle.cedar_text_lexer.specs.declared.tokens.Kind.TheVariants as kind
use Rattle.cedar_text_lexer.specs.Names.{kind_text, expected_text}
use Rattle.cedar_text_lexer.specs.Positions.{goes_on, position_of, headline_of}

-- ---- words of a text

-- a character begins at this byte, or the text ends there
abbrev pub is_boundary : List ℕ → ℕ → Bool
is_boundary bs i = (i == length bs) || (nat_lt i (length bs) && not (goes_on (slice_index bs i)))

-- what stands from byte s up to, but not including, byte e, where characters begin there
abbrev pub part_of : List ℕ → ℕ → ℕ → List ℕ
part_of text s e = if nat_le s e && (is_boundary text s && is_boundary text e) then slice_range text s e else []

-- a mark of ASCII, or a space
abbrev pub is_plain_byte : ℕ → Bool
is_plain_byte b = nat_lt 31 b && nat_lt b 127

-- these alone, and one at least
abbrev pub is_plain : List ℕ → Bool
is_plain w = nat_lt 0 (length w) && list_all is_plain_byte w

-- with these bytes begin the characters beyond ASCII that are not seen: other controls, separators, marks of direction
abbrev pub is_hidden : ℕ → ℕ → Bool
is_hidden a b =
    ((a == 194) && nat_lt b 160) || (((a == 216) && (b == 156)) || (((a == 226) && ((b == 128) || (b == 129)))
    || (((a == 239) && (b == 187)) || (a == 243))))

-- a quote of print, as of U+2018 up to U+201F
abbrev pub is_curly : List ℕ → Bool
is_curly w =
    (length w == 3) && ((slice_index w 0 == 226) && ((slice_index w 1 == 128)
    && (nat_le 152 (slice_index w 2) && nat_le (slice_index w 2) 159)))

-- the character of these bytes is seen where it is printed
abbrev pub is_seen : List ℕ → Bool
is_seen w =
    is_plain w || (is_curly w || (nat_lt 1 (length w) && not (is_hidden (slice_index w 0) (slice_index w 1))))

-- a byte order mark
abbrev pub is_mark : List ℕ → Bool
is_mark w =
    (length w == 3) && ((slice_index w 0 == 239) && ((slice_index w 1 == 187) && (slice_index w 2 == 191)))

-- ---- fractions

-- a digit and a point stand before this byte
abbrev pub follows_point : List ℕ → ℕ → Bool
follows_point bs i =
    nat_le 2 i && (nat_le i (length bs) && ((slice_index bs (i - 1) == 46)
    && (nat_le 48 (slice_index bs (i - 2)) && nat_le (slice_index bs (i - 2)) 57)))

-- a number was found behind them, where this was expected
abbrev pub fraction_message : Expected → List ℕ
fraction_message what =
    codes "expected " ++ (expected_text what
    ++ codes ", found a number: Cedar has no fractions, but decimals, as in `decimal(\"1.5\")`")

-- ---- characters that begin no token

-- such a character, as it is told
abbrev pub character_text : List ℕ → List ℕ
character_text w =
    if is_mark w then codes "a byte order mark" else (
    if bytes_eq w (codes "\r") then codes "a carriage return without a line feed" else (
    if is_seen w then codes "`" ++ (w ++ codes "`") else
    codes "a character that is not seen"))

-- what was probably meant
abbrev pub hint_of : List ℕ → List ℕ
hint_of w =
    if is_curly w then codes ": texts stand in plain quotes, as in `\"a\"`" else (
    if bytes_eq w (codes "'") then codes ": texts stand in plain quotes, as in `\"a\"`" else (
    if bytes_eq w (codes "`") then codes ": texts stand in plain quotes, as in `\"a\"`" else (
    if bytes_eq w (codes "=") then codes ": did you mean `==`?" else (
    if bytes_eq w (codes "&") then codes ": did you mean `&&`?" else (
    if bytes_eq w (codes "|") then codes ": did you mean `||`?" else (
    if bytes_eq w (codes "#") then codes ": comments begin with `//`" else (
    if bytes_eq w (codes "/") then codes ": comments begin with `//`" else (
    if bytes_eq w (codes "?") then codes ": slots are `?principal` and `?resource`" else
    []))))))))

abbrev pub unreadable_message : List ℕ → List ℕ
unreadable_message w = character_text w ++ (codes " begins no token" ++ hint_of w)

-- ---- what else is wrong

-- what is at fault, as what was expected says
abbrev pub fault_of : Expected → Fault
fault_of wanted.NewKey = fault.Duplicate
fault_of (wanted.NoArgument n) = fault.Arguments 0 n
fault_of (wanted.OneArgument n) = fault.Arguments 1 n
fault_of wanted.Long = fault.Large
fault_of wanted.Escape = fault.NoEscape
fault_of (wanted.ClosedParen at) = fault.Open kind.OpenParen at
fault_of (wanted.ClosedCall at) = fault.OpenCall at
fault_of (wanted.ClosedBracket at) = fault.Open kind.OpenBracket at
fault_of (wanted.ClosedBrace at) = fault.Open kind.OpenBrace at
fault_of (wanted.FewerNodes n) = fault.Nodes n
fault_of _ = fault.Other

-- the word between quotes of a kind, or what it is called where it isn't plain
abbrev pub named : List ℕ → List ℕ → List ℕ
named w called = if is_plain w then codes "`" ++ (w ++ codes "`") else called

-- what so many are
abbrev pub arguments_name : ℕ → List ℕ
arguments_name n = if n == 1 then codes "argument" else codes "arguments"

abbrev pub are : ℕ → List ℕ
are n = if n == 1 then codes "is" else codes "are"

-- the method of this name takes m arguments, and n are given
abbrev pub arguments_message : List ℕ → ℕ → ℕ → List ℕ
arguments_message w m n =
    named w (codes "this method") ++ (codes " takes " ++ (decimal m ++ (codes " " ++ (arguments_name m
    ++ (codes ", but " ++ (decimal n ++ (codes " " ++ (are n ++ codes " given"))))))))

abbrev pub escape_message : List ℕ → List ℕ
escape_message w =
    if bytes_eq w (codes "\r") then codes "a carriage return without a line feed: `\\r` stands for one" else
    named w (codes "this") ++ codes " is no escape"

-- what was expected and what was found
abbrev pub expected_found : Expected → Kind → List ℕ
expected_found what found = codes "expected " ++ (expected_text what ++ (codes ", found " ++ kind_text found))

-- the same, and what is open since which place
abbrev pub open_since : Expected → Kind → List ℕ → Position → List ℕ
open_since what found opened p =
    codes "expected " ++ (expected_text what ++ (codes ", found " ++ (kind_text found ++ (codes ": the " ++ (opened
    ++ (codes " at line " ++ (decimal p.line ++ (codes ", column " ++ (decimal p.column ++ codes " is open")))))))))

abbrev pub open_message : List ℕ → Expected → Kind → List ℕ → ℕ → List ℕ
open_message text what found opened at =
    open_since what found opened (position_of text (min at (length text)))

abbrev pub nodes_message : ℕ → List ℕ
nodes_message n =
    codes "`is` with `in` has its left side twice: the expression would have more than " ++ (decimal n
    ++ codes " nodes")

abbrev pub fault_message : List ℕ → Expected → Kind → List ℕ → Fault → List ℕ
fault_message text what found w fault.Duplicate = named w (codes "this key") ++ codes " is a duplicate key"
fault_message text what found w (fault.Arguments m n) = arguments_message w m n
fault_message text what found w fault.Large = codes "the number is larger than 9223372036854775807"
fault_message text what found w fault.NoEscape = escape_message w
fault_message text what found w (fault.Open k at) = open_message text what found (kind_text k) at
fault_message text what found w (fault.OpenCall at) = open_message text what found (codes "call") at
fault_message text what found w (fault.Nodes n) = nodes_message n
fault_message text what found w fault.Other = expected_found what found

-- this was expected where a word of this kind was found, which begins at byte s
abbrev pub why_of : List ℕ → Expected → Kind → ℕ → List ℕ → List ℕ
why_of text what kind.Unreadable s w = unreadable_message w
why_of text what kind.Number s w =
    if follows_point text s then fraction_message what else fault_message text what kind.Number w (fault_of what)
why_of text what found s w = fault_message text what found w (fault_of what)

-- there are more levels than these
abbrev pub levels_message : ℕ → List ℕ
levels_message n =
    codes "the expression has more than " ++ (decimal n
    ++ codes " levels: each operator, of a chain too, is one more than its parts")

-- why a text can't be read, without the place
abbrev pub message_of : List ℕ → ReadError → List ℕ
message_of text error.Memory = codes "out of memory"
message_of text (error.Expected what found s e) = why_of text what found s (part_of text s e)
message_of text (error.TooDeep n s e) = levels_message n

-- what is told of an error, before the line itself
abbrev pub told_of : List ℕ → ReadError → List ℕ
told_of text error.Memory = codes "out of memory"
told_of text (error.Expected what found s e) =
    headline_of (position_of text (min s (length text))) (message_of text (error.Expected what found s e))
told_of text (error.TooDeep n s e) =
    headline_of (position_of text (min s (length text))) (message_of text (error.TooDeep n s e))

-- ---- what is told without the text

-- why, and at which byte
abbrev pub at_byte : ℕ → List ℕ → List ℕ
at_byte s why = codes "byte " ++ (decimal s ++ (codes ": " ++ why))

abbrev pub levels_text : ℕ → List ℕ
levels_text n = codes "the expression has more than " ++ (decimal n ++ codes " levels")

abbrev pub error_text : ReadError → List ℕ
error_text error.Memory = codes "out of memory"
error_text (error.Expected what found s e) = at_byte s (expected_found what found)
error_text (error.TooDeep n s e) = at_byte s (levels_text n)
