-- Which patterns of `like` are said in SQL, and how: where a pattern has wildcards, and which characters.
use Rattle.std.specs.Prelude.{ℕ, ◌+◌, pos, Bool, true, false, cond, not, ◌&&◌, ◌==◌, List, [], ◌∷◌, Option, Some, None}
use Rattle.std.specs.Prelude.{option_map}
use Rattle.std.specs.List.{list_any}
use Rattle.std.specs.Str.{encode_utf8_all}
use Rattle.sqlite_value.specs.declared.value.Value.TheVariants as sql
use Rattle.sqlite_value.specs.declared.keys.Collation.TheVariants.{Binary}
use Rattle.sqlite_sql.specs.declared.ops.CompareOp.TheVariants.{Lt, Le}
use Rattle.sqlite_sql.specs.declared.ops.BinaryOp.TheVariants as by
use Rattle.sqlite_sql.specs.Term.{Term, lit, op2}
use Rattle.cedar_model.specs.Terms.{PatternPart, character, wildcard}
use Rattle.cedar_sql.specs.declared.patterns.Wildcards.{Wildcards}
use Rattle.cedar_sql.specs.declared.patterns.Wildcards.TheVariants.{Nowhere, AtEnd, AtBothEnds, Elsewhere}
use Rattle.cedar_sql.specs.Sides.{Sort, bool_sort, long_sort, text_sort, entity_sort, row_sort, Side}
use Rattle.cedar_sql.specs.Terms.{number, equals}

-- ---- wildcards

-- none
abbrev pub is_plain : List PatternPart → Bool
is_plain [] = true
is_plain (character c ∷ ps) = is_plain ps
is_plain (wildcard ∷ ps) = false

-- nothing else
abbrev pub are_wildcards : List PatternPart → Bool
are_wildcards [] = true
are_wildcards (character c ∷ ps) = false
are_wildcards (wildcard ∷ ps) = are_wildcards ps

-- some, at the end alone
abbrev pub is_front : List PatternPart → Bool
is_front [] = false
is_front (character c ∷ ps) = is_front ps
is_front (wildcard ∷ ps) = are_wildcards ps

-- what follows those at the start
abbrev pub behind_wildcards : List PatternPart → List PatternPart
behind_wildcards [] = []
behind_wildcards (character c ∷ ps) = character c ∷ ps
behind_wildcards (wildcard ∷ ps) = behind_wildcards ps

abbrev pub wildcards : List PatternPart → Wildcards
wildcards ps =
    cond (is_plain ps) Nowhere (cond (is_front ps) AtEnd (cond (is_front (behind_wildcards ps)) AtBothEnds Elsewhere))

-- ---- characters

abbrev pub characters : List PatternPart → List ℕ
characters [] = []
characters (character c ∷ ps) = c ∷ characters ps
characters (wildcard ∷ ps) = characters ps

abbrev pub has_nul_character : List PatternPart → Bool
has_nul_character ps = list_any (λ c. c == 0) (characters ps)

-- ---- which patterns are said

abbrev pub has_a_place : Wildcards → Bool
has_a_place Nowhere = true
has_a_place AtEnd = true
has_a_place AtBothEnds = true
has_a_place Elsewhere = false

abbrev pub is_said_pattern : List PatternPart → Bool
is_said_pattern ps = has_a_place (wildcards ps) && not (has_nul_character ps)

-- ---- the first text behind all those that begin with some characters

-- surrogates are no characters, and 0x10FFFF is the last one
abbrev pub next_character : ℕ → Option ℕ
next_character c = cond (c == 0x10FFFF) None (Some (cond (c == 0xD7FF) 0xE000 (c + 1)))

abbrev pub next_of_part : PatternPart → Option ℕ
next_of_part (character c) = next_character c
next_of_part wildcard = None

abbrev pub with_first : ℕ → Option (List ℕ) → Option (List ℕ)
with_first c None = option_map (λ d. d ∷ []) (next_character c)
with_first c (Some ds) = Some (c ∷ ds)

-- there is none, where each character is the last one
abbrev pub behind : List ℕ → Option (List ℕ)
behind [] = None
behind (c ∷ cs) = with_first c (behind cs)

-- ---- as expressions

abbrev pub characters_term : List ℕ → Term
characters_term cs = lit (sql.Text (encode_utf8_all cs))

abbrev pub whole_term : List ℕ → Term → Term
whole_term cs a = equals a (characters_term cs)

abbrev pub from_term : List ℕ → Term → Term
from_term cs a = op2 (by.Compare Le Binary) (characters_term cs) a

abbrev pub before_term : List ℕ → Term → Term
before_term cs a = op2 (by.Compare Lt Binary) a (characters_term cs)

abbrev pub range_term : List ℕ → Option (List ℕ) → Term → Term
range_term cs None a = from_term cs a
range_term cs (Some ds) a = op2 by.And (from_term cs a) (before_term ds a)

-- those that begin with the characters are those from them on, before the first one behind
abbrev pub front_term : List ℕ → Term → Term
front_term cs a = range_term cs (behind cs) a

abbrev pub within_term : List ℕ → Term → Term
within_term cs a = op2 (by.Compare Lt Binary) (number (pos 0)) (op2 by.Instr a (characters_term cs))

abbrev pub placed_term : Wildcards → List ℕ → Term → Term
placed_term Nowhere cs a = whole_term cs a
placed_term AtEnd cs a = front_term cs a
placed_term AtBothEnds cs a = within_term cs a
placed_term Elsewhere cs a = lit sql.Null

abbrev pub like_term : List PatternPart → Term → Term
like_term ps a = placed_term (wildcards ps) (characters ps) a

-- of what is no text there is an error
abbrev pub pattern_term : List PatternPart → Sort → Term → Term
pattern_term ps bool_sort a = lit sql.Null
pattern_term ps long_sort a = lit sql.Null
pattern_term ps text_sort a = like_term ps a
pattern_term ps (entity_sort t) a = lit sql.Null
pattern_term ps (row_sort q) a = lit sql.Null

abbrev pub liked_or_null : List PatternPart → Option Side → Term
liked_or_null ps None = lit sql.Null
liked_or_null ps (Some s) = pattern_term ps s.sort s.term
