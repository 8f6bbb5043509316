-- The range that a text writes: 47 is `/`, 48 is `0`, 58 is `:`, and 46 is `.`.
use Rattle.std.specs.Prelude.{ℕ, Bool, false, ◌&&◌, ◌||◌, not, cond, ◌==◌, nat_lt, nat_le, List, [], ◌∷◌, length, Option, Some, None, option_map}
use Rattle.std.specs.List.{list_all, list_any, position_or_len, before_first, after_first}
use Rattle.std.specs.Char.{is_ascii_digit}
use Rattle.std.specs.Str.Parse.{digits_value}
use Rattle.std.specs.Net.Reader.{read_ipv4, read_ipv6, whole_value}
use Rattle.std.specs.Net.Addr.{octets_of}
use Rattle.cedar_ip.specs.Ranges.{Family, ipv4, ipv6, Range}

-- the octets of the address that a text writes
abbrev pub ipv4_octets_of : List ℕ → Option (List ℕ)
ipv4_octets_of text = whole_value (read_ipv4 text)

abbrev pub ipv6_octets_of : List ℕ → Option (List ℕ)
ipv6_octets_of text = option_map octets_of (whole_value (read_ipv6 text))

-- one digit or more, and nothing else
abbrev pub is_numeral : List ℕ → Bool
is_numeral text = not (length text == 0) && list_all is_ascii_digit text

abbrev pub starts_with_zero : List ℕ → Bool
starts_with_zero [] = false
starts_with_zero (c ∷ cs) = c == 48

-- a number without needless zeros
abbrev pub is_plain : List ℕ → Bool
is_plain text = is_numeral text && ((length text == 1) || not (starts_with_zero text))

-- the length of a prefix of at most so many bits
abbrev pub prefix_of : ℕ → List ℕ → Option ℕ
prefix_of bits text = cond (is_plain text && nat_le (digits_value 10 text) bits) (Some (digits_value 10 text)) None

-- that behind a slash, or all bits where there is none
abbrev pub prefix_behind : ℕ → Option (List ℕ) → Option ℕ
prefix_behind bits None = Some bits
prefix_behind bits (Some text) = prefix_of bits text

-- the range of a prefix and an address, where there are both
abbrev pub range_with : Family → Option ℕ → Option (List ℕ) → Option Range
range_with f None octets = None
range_with f (Some prefix) None = None
range_with f (Some prefix) (Some octets) = Some (record { family = f; prefix = prefix; octets = octets })

abbrev pub ipv6_range_of : List ℕ → Option (List ℕ) → Option Range
ipv6_range_of address digits = range_with ipv6 (prefix_behind 128 digits) (ipv6_octets_of address)

-- the range of the octets of an IPv4 address, and else of an IPv6 one
abbrev pub range_of_either : Option (List ℕ) → List ℕ → Option (List ℕ) → Option Range
range_of_either (Some octets) address digits = range_with ipv4 (prefix_behind 32 digits) (Some octets)
range_of_either None address digits = ipv6_range_of address digits

-- by the text of the address, and the text behind the slash where there is one
abbrev pub range_of_parts : List ℕ → Option (List ℕ) → Option Range
range_of_parts address digits = range_of_either (ipv4_octets_of address) address digits

abbrev pub is_slash : ℕ → Bool
is_slash c = c == 47

-- what stands behind the first slash
abbrev pub behind_slash : List ℕ → Option (List ℕ)
behind_slash text = cond (nat_lt (position_or_len is_slash text) (length text)) (Some (after_first is_slash text)) None

-- a text of more than 43 bytes, or with both `:` and `.`
abbrev pub is_refused : List ℕ → Bool
is_refused text = nat_lt 43 (length text) || (list_any (λ c. c == 58) text && list_any (λ c. c == 46) text)

-- the range that the text writes, if it writes one
abbrev pub range_of : List ℕ → Option Range
range_of text = cond (is_refused text) None (range_of_parts (before_first is_slash text) (behind_slash text))
