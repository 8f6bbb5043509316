-- Names made of words.
use Rattle.std.specs.Prelude.{ℕ, Bool, false, [], ◌∷◌, ◌==◌, ◌&&◌, ◌||◌, not, if◌then◌else◌, true, Option, Some, None, codes, bytes_eq, take, drop}
use Rattle.cedar_model.specs.Terms.{Text}
use Rattle.cedar_text_lexer.specs.Words.{starts_word, is_word_byte, begins_reserved}
use Rattle.cedar_policy_json_reader.specs.declared.names.Place.{Place}
use Rattle.cedar_policy_json_reader.specs.declared.names.Place.TheVariants.{AtWord, InWord, AtColon}

-- where a name is read behind this byte: at a word that is to begin, inside a word, or behind the first of two colons
abbrev pub behind : Place → ℕ → Option Place
behind AtWord b = if starts_word b then Some InWord else None
behind InWord b = if is_word_byte b then Some InWord else (if b == 58 then Some AtColon else None)
behind AtColon b = if b == 58 then Some AtWord else None

-- a name ends inside a word
abbrev pub may_end : Place → Bool
may_end AtWord = false
may_end InWord = true
may_end AtColon = false

-- what is left is the rest of a name that is read up to here, if it is one so far
abbrev pub goes_on_from : Option Place → Text → Bool
goes_on_from None bs = false
goes_on_from (Some p) [] = may_end p
goes_on_from (Some p) (b ∷ bs) = goes_on_from (behind p b) bs

-- words with `::` between them
abbrev pub are_words : Text → Bool
are_words t = goes_on_from (Some AtWord) t

-- no word goes on with these bytes
abbrev pub ends_word : Text → Bool
ends_word [] = true
ends_word (b ∷ bs) = not (is_word_byte b)

-- the word `__cedar`, which is reserved in the names of types, namespaces and functions, for Cedar's own
abbrev pub begins_cedar : Text → Bool
begins_cedar bs = bytes_eq (take 7 bs) (codes "__cedar") && ends_word (drop 7 bs)

-- a word that is reserved in names: one of the language's reserved words, or that one
abbrev pub begins_reserved_in_names : Text → Bool
begins_reserved_in_names bs = begins_reserved bs || begins_cedar bs

-- no word is reserved that begins in these bytes: behind a colon, and at their beginning, if one begins there
abbrev pub has_no_reserved : Bool → Text → Bool
has_no_reserved begins [] = true
has_no_reserved begins (b ∷ bs) = not (begins && begins_reserved_in_names (b ∷ bs)) && has_no_reserved (b == 58) bs

-- words with `::` between them, none of which is reserved
abbrev pub is_name : Text → Bool
is_name t = are_words t && has_no_reserved true t
