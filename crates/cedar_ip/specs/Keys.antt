-- The keys of ranges, and what they are asked. Each question is answered of any bytes; the laws say what it means of
-- the keys of ranges.
use Rattle.std.specs.Prelude.{ℕ, ◌-◌, ◌/◌, ◌^◌, Bool, false, ◌&&◌, ◌||◌, ◌==◌, nat_le, List, [], ◌∷◌, length, drop, Option, option_map}
use Rattle.cedar_ip.specs.Ranges.{Family, ipv4, ipv6, size, number_of, code_of, key_of_range}
use Rattle.cedar_ip.specs.Texts.{range_of}
use Rattle.cedar_ip.specs.Addresses.{loopback_ipv4, loopback_ipv6, multicast_ipv4, multicast_ipv6}
use Rattle.cedar_ip.specs.declared.parsing.RangeKey.{RangeKey}
use Rattle.cedar_ip.specs.declared.parsing.RangeKey.TheVariants.{V4, V6}

-- the key of the range that the text writes, if it writes one
abbrev pub key_of : List ℕ → Option (List ℕ)
key_of text = option_map key_of_range (range_of text)

abbrev pub bytes_of : RangeKey → List ℕ
bytes_of (V4 bytes) = bytes
bytes_of (V6 bytes) = bytes

-- how many bytes a key of the family has
abbrev pub key_length : Family → ℕ
key_length ipv4 = 6
key_length ipv6 = 18

-- the bytes are a key of the family
abbrev pub is_key_of : Family → List ℕ → Bool
is_key_of f [] = false
is_key_of f (c ∷ cs) = (c == code_of f) && (length (c ∷ cs) == key_length f)

-- the length of the prefix in a key
abbrev pub prefix_in : List ℕ → ℕ
prefix_in [] = 0
prefix_in (c ∷ []) = 0
prefix_in (c ∷ prefix ∷ octets) = prefix

-- the first n bits of the address in a key of the family
abbrev pub first_bits : Family → ℕ → List ℕ → ℕ
first_bits f n k = number_of f (drop 2 k) / 2 ^ (size f - n)

-- both are keys of the family, the first has a prefix as long as the second's at least, and it shares the bits of that
abbrev pub lies_in : Family → List ℕ → List ℕ → Bool
lies_in f k l = is_key_of f k && (is_key_of f l
    && (nat_le (prefix_in l) (prefix_in k) && (first_bits f (prefix_in l) k == first_bits f (prefix_in l) l)))

abbrev pub is_in_range : List ℕ → List ℕ → Bool
is_in_range k l = lies_in ipv4 k l || lies_in ipv6 k l

abbrev pub is_loopback : List ℕ → Bool
is_loopback k = is_in_range k (key_of_range loopback_ipv4) || is_in_range k (key_of_range loopback_ipv6)

abbrev pub is_multicast : List ℕ → Bool
is_multicast k = is_in_range k (key_of_range multicast_ipv4) || is_in_range k (key_of_range multicast_ipv6)
