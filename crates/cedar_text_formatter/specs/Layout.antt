-- The layout: what stands before each piece, by what stands before it in the text and how many brackets are open.
use Rattle.std.specs.Prelude.{ℕ, ◌+◌, ◌-◌, Bool, true, false, not, ◌&&◌, ◌||◌, ◌==◌, nat_lt, if◌then◌else◌, List, [], ◌∷◌, ◌++◌, length, codes, slice_index}
use Rattle.cedar_text_lexer.specs.declared.tokens.Kind.{Kind}
use Rattle.cedar_text_lexer.specs.declared.tokens.Kind.TheVariants as kind
use Rattle.cedar_text_lexer.specs.Scanning.{begins_with}
use Rattle.cedar_text_lexer.specs.Words.{is_word_byte}
use Rattle.cedar_text_formatter.specs.declared.fronts.Front.{Front}
use Rattle.cedar_text_formatter.specs.declared.fronts.Front.TheVariants as front
use Rattle.cedar_text_formatter.specs.declared.layout.State.{State}
use Rattle.cedar_text_formatter.specs.declared.roles.Role.{Role}
use Rattle.cedar_text_formatter.specs.declared.roles.Role.TheVariants as role
use Rattle.cedar_text_formatter.specs.Pieces.{Piece, comment, token}
use Rattle.cedar_text_formatter.specs.Roles as Roles

-- ---- lines and blanks

-- a line feed, and two spaces where one bracket is open, four where more are
abbrev pub line_at : ℕ → List ℕ
line_at depth = if depth == 0 then codes "\n" else (if depth == 1 then codes "\n  " else codes "\n    ")

-- the bytes are an operator of two bytes
abbrev pub make_operator : ℕ → ℕ → Bool
make_operator a b =
    ((b == 58) && (a == 58)) || (((b == 124) && (a == 124)) || (((b == 38) && (a == 38))
    || ((b == 61) && ((a == 61) || ((a == 33) || ((a == 60) || (a == 62)))))))

-- a token that ends with the first byte and one that begins with the second would run together
abbrev pub run_together : ℕ → ℕ → Bool
run_together a b = (is_word_byte b && is_word_byte a) || make_operator a b

-- nothing, or a space where the word would run together with what ends with this byte
abbrev pub apart : ℕ → List ℕ → List ℕ
apart last word = if begins_with (run_together last) word then codes " " else []

-- ---- tokens

-- right inside the brackets of a scope or a clause
abbrev pub is_in_block : State → Bool
is_in_block s = (s.depth == 1) && s.is_block

-- the token closes a scope or a clause
abbrev pub closes_block : State → Kind → Bool
closes_block s k = Roles.closes k && is_in_block s

-- `(` behind the name of a function or a method, or the key of an annotation
abbrev pub is_call : State → Kind → Bool
is_call s kind.OpenParen = Roles.is_key s.before || (nat_lt 0 s.depth && Roles.is_name s.before)
is_call s _ = false

-- `[` behind an operand: `a["b"]`
abbrev pub is_access : State → Kind → Bool
is_access s kind.OpenBracket = Roles.ends_operand s.before
is_access s _ = false

-- the token stands right behind the one before
abbrev pub is_close : State → Kind → Bool
is_close s k =
    Roles.is_joined k || (Roles.holds_next s.before || ((Roles.closes k && not (closes_block s k))
    || (is_call s k || is_access s k)))

-- in a scope or a clause each part begins a line, as does its end; outside of brackets each word and each `@` does
abbrev pub begins_line : State → Kind → Bool
begins_line s k =
    if s.depth == 0 then not (Roles.opens k) else
    is_in_block s && (Roles.parts s.before || (Roles.closes k || Roles.is_connective k))

-- how far a line is set in that begins with the token
abbrev pub depth_of : State → Kind → ℕ
depth_of s k = if Roles.closes k then s.depth - 1 else s.depth

-- what stands before a token, behind no comment
abbrev pub gap_of : State → Kind → List ℕ → List ℕ
gap_of s k word =
    if Roles.is_start s.before then apart s.last word else (
    if is_close s k then apart s.last word else (
    if Roles.is_end s.before then codes "\n\n" else (
    if begins_line s k then line_at (depth_of s k) else
    codes " ")))

-- what stands before a token
abbrev pub token_gap : State → Kind → List ℕ → List ℕ
token_gap s k word = if s.is_after_comment then line_at (depth_of s k) else gap_of s k word

-- how many brackets are open behind the token
abbrev pub depth_behind : ℕ → Kind → ℕ
depth_behind depth k = if Roles.opens k then depth + 1 else (if Roles.closes k then depth - 1 else depth)

-- the token is the first bracket that is open, and it is that of a scope or a clause; or the one that is open is
abbrev pub is_block_behind : State → Kind → Bool
is_block_behind s k = if Roles.opens k && (s.depth == 0) then not (Roles.is_key s.before) else s.is_block

-- what the token is to the next one
abbrev pub role_behind : State → Kind → Role
role_behind s k = if Roles.is_at s.before then role.Key else Roles.role_of s.before s.depth k

-- the last byte
abbrev pub last_of : List ℕ → ℕ
last_of word = slice_index word (length word - 1)

-- what is known behind a token
abbrev pub behind_token : State → Kind → List ℕ → State
behind_token s k word = record {
  depth = depth_behind s.depth k;
  is_block = is_block_behind s k;
  before = role_behind s k;
  is_after_comment = false;
  last = last_of word;
}

-- ---- comments

-- each comment stands on a line of its own; behind a policy an empty line comes first
abbrev pub comment_gap : State → List ℕ
comment_gap s =
    if s.is_after_comment then line_at s.depth else (
    if Roles.is_start s.before then [] else (
    if Roles.is_end s.before then codes "\n\n" else
    line_at s.depth))

abbrev pub behind_comment : State → State
behind_comment s = record s { is_after_comment = true }

-- ---- texts

-- what is written of that with which a text begins, and what is known behind it
abbrev pub written : State → Front → List ℕ → List ℕ
written s front.Blank word = []
written s front.Comment word = comment_gap s ++ word
written s (front.Token k) word = token_gap s k word ++ word

abbrev pub behind : State → Front → List ℕ → State
behind s front.Blank word = s
behind s front.Comment word = behind_comment s
behind s (front.Token k) word = behind_token s k word

-- a line feed ends each text but an empty one
abbrev pub ending : State → List ℕ
ending s = if s.is_after_comment || not (Roles.is_start s.before) then codes "\n" else []

-- the pieces laid out, behind this
unfoldable pub layout_from : State → List Piece → List ℕ
layout_from s [] = ending s
layout_from s (comment word ∷ pieces) = comment_gap s ++ (word ++ layout_from (behind_comment s) pieces)
layout_from s (token k word ∷ pieces) = token_gap s k word ++ (word ++ layout_from (behind_token s k word) pieces)

-- before the first piece
abbrev pub start : State
start = record { depth = 0; is_block = false; before = role.Start; is_after_comment = false; last = 0 }

-- the pieces laid out
abbrev pub layout : List Piece → List ℕ
layout pieces = layout_from start pieces
