-- What std's parser says of an address, as what the definitions read.
use Rattle.std.proofs.Common.{◌≡◌, ℕ, List, [], ◌∷◌, Option, Some, None, Result, Ok, Err, MatchResult, refl, ap, ◌∙◌, sym, append-nil, lit≤, subst, arith}
use Rattle.std.specs.Option.{option_map}
use Rattle.std.specs.Net.Grammar.{Parses, IsIpv4Text, IsIpv6Text, IsDotted, IsColonHex}
use Rattle.std.specs.Net.Addr.{ipv4_octets, ipv6_segments, octets_of}
use Rattle.std.specs.Net.Reader.{read_ipv4, read_ipv6, whole_value, Read}
use Rattle.std.specs.declared.net.ipv4_addr.Ipv4Addr.{Ipv4Addr}
use Rattle.std.specs.declared.net.ipv6_addr.Ipv6Addr.{Ipv6Addr}
use Rattle.std.proofs.NetLemmas.Ipv4.{read_ipv4_sound, read_ipv4_complete}
use Rattle.std.proofs.NetLemmas.Ipv6.{read_ipv6_sound, read_ipv6_complete, EndsGroups-nil, IsDotted-not_colon_hex}
use Rattle.cedar_ip.specs.Texts.{ipv4_octets_of, ipv6_octets_of}

-- a text of the grammar is read to its end
pub ipv4_read : (text octets : List ℕ) → IsDotted text octets → ipv4_octets_of text ≡ Some octets
ipv4_read text octets is = ap whole_value (rw append-nil at (read_ipv4_complete text octets [] is (lit≤ tt)))

pub ipv6_read : (text segments : List ℕ) → IsColonHex text segments → whole_value (read_ipv6 text) ≡ Some segments
ipv6_read text segments is = ap whole_value (rw append-nil at (read_ipv6_complete text segments [] is EndsGroups-nil))

-- what is read to the end leaves nothing
whole_read : {A : Type 0} (r : Read A) (a : A) → whole_value r ≡ Some a → r ≡ Some (a, [])
whole_read None a h = cc
whole_read (Some (b, [])) a h = let same : b ≡ a = cc in ap (λ z. Some (z, [])) same
whole_read (Some (b, x ∷ xs)) a h = let none : whole_value (Some (b, x ∷ xs)) ≡ None = grind arith in cc

-- and is of the grammar
pub ipv4_written : (text octets : List ℕ) → ipv4_octets_of text ≡ Some octets → IsDotted text octets
ipv4_written text octets h =
    let (front, split, is) = read_ipv4_sound text octets [] (whole_read (read_ipv4 text) octets h) in
    subst (λ t. IsDotted t octets) (sym (split ∙ append-nil front)) is

pub ipv6_written : (text segments : List ℕ) → whole_value (read_ipv6 text) ≡ Some segments → IsColonHex text segments
ipv6_written text segments h =
    let (front, split, is) = read_ipv6_sound text segments [] (whole_read (read_ipv6 text) segments h) in
    subst (λ t. IsColonHex t segments) (sym (split ∙ append-nil front)) is

-- where nothing is read, there is no value
none_read : {A : Type 0} (o : Option A) → ((a : A) → o ≡ Some a → ⊥) → o ≡ None
none_read None h = refl
none_read (Some a) h = absurd (h a refl)

pub ipv4_reads : {E : Type 0} (text : List ℕ) (r : Result Ipv4Addr E) → Parses IsIpv4Text text r →
    MatchResult r (λ a. ipv4_octets_of text ≡ Some (ipv4_octets a)) (λ _. ipv4_octets_of text ≡ None)
ipv4_reads text (Ok a) h = ipv4_read text (ipv4_octets a) h
ipv4_reads text (Err e) h = none_read (ipv4_octets_of text) (λ o is. h (record { octets = o }) (ipv4_written text o is))

pub ipv6_reads : {E : Type 0} (text : List ℕ) (r : Result Ipv6Addr E) → Parses IsIpv6Text text r →
    MatchResult r (λ a. ipv6_octets_of text ≡ Some (octets_of (ipv6_segments a))) (λ _. ipv6_octets_of text ≡ None)
ipv6_reads text (Ok a) h = ap (option_map octets_of) (ipv6_read text (ipv6_segments a) h)
ipv6_reads text (Err e) h = ap (option_map octets_of)
    (none_read (whole_value (read_ipv6 text)) (λ s is. h (record { segments = s }) (ipv6_written text s is)))

-- a text of one family is none of the other
pub ipv6_is_not_ipv4 : (text segments : List ℕ) → IsColonHex text segments → ipv4_octets_of text ≡ None
ipv6_is_not_ipv4 text segments is =
    none_read (ipv4_octets_of text) (λ o h. IsDotted-not_colon_hex text o segments (ipv4_written text o h) is)
