-- How a text writes a range of addresses.
use Rattle.std.specs.Prelude.{◌≡◌, ◌⊎◌, ℕ, ◌≤◌, List, ◌++◌, codes, decimal, IsFalse}
use Rattle.std.specs.Net.Grammar.{IsDotted, IsColonHex}
use Rattle.std.specs.Net.Addr.{octets_of}
use Rattle.cedar_ip.specs.Ranges.{Family, ipv4, ipv6, Range, size}
use Rattle.cedar_ip.specs.Texts.{is_refused}

-- the text writes an address of these octets
abbrev pub IsAddressText : Family → List ℕ → List ℕ → Type 0
IsAddressText ipv4 text octets = IsDotted text octets
IsAddressText ipv6 text octets = (segments : List ℕ) × IsColonHex text segments × (octets ≡ octets_of segments)

-- the text is an address, whose prefix is all of it
pub record IsSingle (text : List ℕ) (r : Range) : Type 0 where
  pub address : IsAddressText r.family text r.octets
  pub all : r.prefix ≡ size r.family

-- the text is an address, a slash, and a number of bits as it is printed
pub record IsPrefixed (text : List ℕ) (r : Range) : Type 0 where
  pub address_text : List ℕ
  pub spelled : text ≡ address_text ++ codes "/" ++ decimal r.prefix
  pub address : IsAddressText r.family address_text r.octets
  pub fits : r.prefix ≤ size r.family

-- one of both, in at most 43 bytes, and without an IPv4 address in an IPv6 one
abbrev pub IsRangeText : List ℕ → Range → Type 0
IsRangeText text r = IsFalse (is_refused text) × (IsSingle text r ⊎ IsPrefixed text r)
