-- Which addresses are in a range. An address is a number of 32 or of 128 bits.
use Rattle.std.specs.Prelude.{◌≡◌, ℕ, ◌-◌, ◌/◌, ◌^◌, ◌<◌, [], ◌∷◌}
use Rattle.cedar_ip.specs.Ranges.{Family, ipv4, ipv6, Range, size, address_of}

-- the address is of the range's family, and shares the first bits of the range's address
pub record IsIn (r : Range) (f : Family) (a : ℕ) : Type 0 where
  pub same_family : f ≡ r.family
  pub an_address : a < 2 ^ size f
  pub same_prefix : a / 2 ^ (size f - r.prefix) ≡ address_of r / 2 ^ (size f - r.prefix)

-- each address of the first range is one of the second
abbrev pub IsWithin : Range → Range → Type 0
IsWithin r s = (f : Family) (a : ℕ) → IsIn r f a → IsIn s f a

-- 127.0.0.0/8 and ::1
abbrev pub loopback_ipv4 : Range
loopback_ipv4 = record { family = ipv4; prefix = 8; octets = 127 ∷ 0 ∷ 0 ∷ 0 ∷ [] }

abbrev pub loopback_ipv6 : Range
loopback_ipv6 = record {
  family = ipv6;
  prefix = 128;
  octets = 0 ∷ 0 ∷ 0 ∷ 0 ∷ 0 ∷ 0 ∷ 0 ∷ 0 ∷ 0 ∷ 0 ∷ 0 ∷ 0 ∷ 0 ∷ 0 ∷ 0 ∷ 1 ∷ [];
}

-- 224.0.0.0/4 and ff00::/8
abbrev pub multicast_ipv4 : Range
multicast_ipv4 = record { family = ipv4; prefix = 4; octets = 224 ∷ 0 ∷ 0 ∷ 0 ∷ [] }

abbrev pub multicast_ipv6 : Range
multicast_ipv6 = record {
  family = ipv6;
  prefix = 8;
  octets = 255 ∷ 0 ∷ 0 ∷ 0 ∷ 0 ∷ 0 ∷ 0 ∷ 0 ∷ 0 ∷ 0 ∷ 0 ∷ 0 ∷ 0 ∷ 0 ∷ 0 ∷ 0 ∷ [];
}

-- a loopback address: the first octet of an IPv4 one is 127, and an IPv6 one is ::1
abbrev pub IsLoopback : Family → ℕ → Type 0
IsLoopback ipv4 a = a / 2 ^ 24 ≡ 127
IsLoopback ipv6 a = a ≡ 1

-- a multicast address: the first four bits of an IPv4 one are 1110, and the first octet of an IPv6 one is ff
abbrev pub IsMulticast : Family → ℕ → Type 0
IsMulticast ipv4 a = a / 2 ^ 28 ≡ 14
IsMulticast ipv6 a = a / 2 ^ 120 ≡ 255

abbrev pub EachIsLoopback : Range → Type 0
EachIsLoopback r = (f : Family) (a : ℕ) → IsIn r f a → IsLoopback f a

abbrev pub EachIsMulticast : Range → Type 0
EachIsMulticast r = (f : Family) (a : ℕ) → IsIn r f a → IsMulticast f a
