-- Ranges of IP addresses, as plain data.
use Rattle.std.specs.Prelude.{◌≡◌, ℕ, ◌*◌, ◌^◌, ◌<◌, ◌≤◌, List, ◌∷◌, length}
use Rattle.std.specs.Int.{w32, w128, from_be_bytes}

pub data Family : Type 0 where
  ipv4 : Family
  ipv6 : Family

-- the address that a range is written with, by its octets, and how many of its first bits all addresses share
pub record Range : Type 0 where
  pub family : Family
  pub prefix : ℕ
  pub octets : List ℕ

-- how many bits an address has
abbrev pub size : Family → ℕ
size ipv4 = 32
size ipv6 = 128

-- the number that octets write, the highest first
abbrev pub number_of : Family → List ℕ → ℕ
number_of ipv4 octets = from_be_bytes w32 octets
number_of ipv6 octets = from_be_bytes w128 octets

-- the address as a number
abbrev pub address_of : Range → ℕ
address_of r = number_of r.family r.octets

-- how each family is told in a key
abbrev pub code_of : Family → ℕ
code_of ipv4 = 4
code_of ipv6 = 6

abbrev pub key_of_range : Range → List ℕ
key_of_range r = code_of r.family ∷ r.prefix ∷ r.octets

-- a range has as many octets as its family, of eight bits each, and a prefix that is no longer
pub record IsRange (r : Range) : Type 0 where
  pub whole : length r.octets * 8 ≡ size r.family
  pub an_address : address_of r < 2 ^ size r.family
  pub fits : r.prefix ≤ size r.family
