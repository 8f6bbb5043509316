-- Words: identifiers, keywords and slots, by their bytes.
use Rattle.std.specs.Prelude.{ℕ, Bool, false, List, [], ◌∷◌, ◌==◌, ◌||◌, ◌&&◌, if◌then◌else◌, codes, bytes_eq, take}
use Rattle.std.specs.List.{list_all, prefix_len}
use Rattle.std.specs.Char.{is_ascii_alphabetic, is_ascii_alphanumeric}
use Rattle.cedar_text_lexer.specs.declared.tokens.Kind.{Kind}
use Rattle.cedar_text_lexer.specs.declared.tokens.Kind.TheVariants as kind
use Rattle.cedar_text_lexer.specs.Kinds as Kinds

-- a letter or `_`
abbrev pub starts_word : ℕ → Bool
starts_word b = is_ascii_alphabetic b || (b == 95)

-- a letter, a digit or `_`
abbrev pub is_word_byte : ℕ → Bool
is_word_byte b = is_ascii_alphanumeric b || (b == 95)

-- a letter or `_`, and then letters, digits and `_`
abbrev pub is_word : List ℕ → Bool
is_word [] = false
is_word (b ∷ bs) = starts_word b && list_all is_word_byte bs

-- the keyword that the word is, or else an identifier
abbrev pub word_kind : List ℕ → Kind
word_kind w =
    if bytes_eq w (codes "permit") then kind.Permit else (
    if bytes_eq w (codes "forbid") then kind.Forbid else (
    if bytes_eq w (codes "when") then kind.When else (
    if bytes_eq w (codes "unless") then kind.Unless else (
    if bytes_eq w (codes "principal") then kind.Principal else (
    if bytes_eq w (codes "action") then kind.Action else (
    if bytes_eq w (codes "resource") then kind.Resource else (
    if bytes_eq w (codes "context") then kind.Context else (
    if bytes_eq w (codes "true") then kind.True else (
    if bytes_eq w (codes "false") then kind.False else (
    if bytes_eq w (codes "if") then kind.If else (
    if bytes_eq w (codes "then") then kind.Then else (
    if bytes_eq w (codes "else") then kind.Else else (
    if bytes_eq w (codes "in") then kind.In else (
    if bytes_eq w (codes "has") then kind.Has else (
    if bytes_eq w (codes "like") then kind.Like else (
    if bytes_eq w (codes "is") then kind.Is else (
    if bytes_eq w (codes "__cedar") then kind.Cedar else
    kind.Identifier)))))))))))))))))

-- one word, and none that is reserved
unfoldable pub is_identifier : List ℕ → Bool
is_identifier w = is_word w && Kinds.is_identifier (word_kind w)

-- the bytes up to the first one that no word goes on with are a reserved word
unfoldable pub begins_reserved : List ℕ → Bool
begins_reserved bs = Kinds.is_reserved (word_kind (take (prefix_len is_word_byte bs) bs))

-- the slot that the word behind `?` names, or else one that the language doesn't have
abbrev pub slot_kind : List ℕ → Kind
slot_kind w =
    if bytes_eq w (codes "principal") then kind.PrincipalSlot else (
    if bytes_eq w (codes "resource") then kind.ResourceSlot else
    kind.OtherSlot)
