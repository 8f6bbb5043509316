-- What address texts write has the octets of its family, each of eight bits.
use Rattle.std.proofs.Common.{◌≡◌, ℕ, zero, suc, ◌+◌, ◌-◌, ◌*◌, ◌^◌, ◌<◌, ◌≤◌, Bool, true, false, List, [], ◌∷◌, ◌++◌, length, replicate, codes, refl, arith, ap, ◌∙◌, sym, subst, inl, inr}
use Rattle.std.specs.Str.Parse.{digits_value}
use Rattle.std.specs.Net.Grammar.{IsDotted, IsColonHex, IsElided, IsGroup, IsGroupsAfter}
use Rattle.std.specs.Net.Addr.{octets_of, segments_of}
use Rattle.std.proofs.NetLemmas.Arrays.{eight_items}
use Rattle.std.proofs.NetLemmas.Texts.{AllSegments}
use Rattle.std.proofs.Math.Nat.{pow-le-pow_right}
use Rattle.std.proofs.lemmas.Int.Digits.{digits_value-lt}
use Rattle.std.proofs.lemmas.List.{length-append}
use Rattle.std.proofs.Math.ListN.{length-replicate}
use Rattle.cedar_ip.specs.Ranges.{Family, ipv4, ipv6, size, number_of}
use Rattle.cedar_ip.specs.Grammar.{IsAddressText}

-- so many octets, and a number of so many bits
abbrev pub HasSize : Family → List ℕ → Type 0
HasSize f octets = (length octets * 8 ≡ size f) × (number_of f octets < 2 ^ size f)

four_octets : (a b c d : ℕ) → a < 256 → b < 256 → c < 256 → d < 256 → HasSize ipv4 (a ∷ b ∷ c ∷ d ∷ [])
four_octets a b c d ha hb hc hd = (refl, omega arith)

dotted_size : (text octets : List ℕ) → IsDotted text octets → HasSize ipv4 octets
dotted_size text octets is =
    subst (HasSize ipv4) (sym is.value) (four_octets is.a is.b is.c is.d is.fit.0 is.fit.1 is.fit.2 is.fit.3)

-- segments of 16 bits each
none_fit : AllSegments []
none_fit k = omega arith

more_fit : (x : ℕ) (xs : List ℕ) → x < 2 ^ 16 → AllSegments xs → AllSegments (x ∷ xs)
more_fit x xs small h zero = small
more_fit x xs small h (suc k) = h k

both_fit : (xs ys : List ℕ) → AllSegments xs → AllSegments ys → AllSegments (xs ++ ys)
both_fit [] ys h g = g
both_fit (x ∷ xs) ys h g = more_fit x (xs ++ ys) (h 0) (both_fit xs ys (λ k. h (suc k)) g)

zeros_fit : (n : ℕ) → AllSegments (replicate n 0)
zeros_fit zero = none_fit
zeros_fit (suc n) = more_fit 0 (replicate n 0) (omega arith) (zeros_fit n)

group_fits : (text : List ℕ) (segment : ℕ) → IsGroup text segment → segment < 2 ^ 16
group_fits text segment (number, short) =
    let low : digits_value 16 text < 16 ^ length text = digits_value-lt 16 text number.0.1 in
    let most : 16 ^ length text ≤ 16 ^ 4 = pow-le-pow_right {n = 16} (omega arith) short in
    let value : digits_value 16 text ≡ segment = number.1 in
    omega arith

last_fit : (text octets segments : List ℕ) → IsDotted text octets → segments ≡ segments_of octets → AllSegments segments
last_fit text octets segments is value =
    subst AllSegments (sym (value ∙ ap segments_of is.value))
    (let (a, b, c, d) = is.fit in
    more_fit (is.a * 256 + is.b) ((is.c * 256 + is.d) ∷ []) (omega arith)
    (more_fit (is.c * 256 + is.d) [] (omega arith) none_fit))

groups_fit : (may : Bool) (lead text segments : List ℕ) → IsGroupsAfter may lead text segments → AllSegments segments
groups_fit may lead text [] is = none_fit
groups_fit may lead text (s ∷ segments) (inl (group, rest, spelled, is, more)) =
    more_fit s segments (group_fits group s is) (groups_fit may (codes ":") rest segments more)
groups_fit may lead text (s ∷ segments) (inr (last, octets, allowed, spelled, dotted, value)) =
    last_fit last octets (s ∷ segments) dotted value

elided_fit : (text segments : List ℕ) → IsElided text segments → (length segments ≡ 8) × AllSegments segments
elided_fit text segments is =
    let zeros = replicate (8 - length is.head - length is.tail) 0 in
    let long : length (is.head ++ zeros ++ is.tail) ≡ 8 =
    omega (
      arith,
      length-append (is.head ++ zeros) is.tail,
      length-append is.head zeros,
      length-replicate {A = ℕ} (8 - length is.head - length is.tail) 0,
      is.room,
    ) in
    let fit : AllSegments (is.head ++ zeros ++ is.tail) =
    both_fit (is.head ++ zeros) is.tail
    (both_fit is.head zeros (groups_fit false [] is.head_text is.head is.head_groups) (zeros_fit _))
    (groups_fit true [] is.tail_text is.tail is.tail_groups) in
    (ap length is.value ∙ long, subst AllSegments (sym is.value) fit)

colon_hex_fit : (text segments : List ℕ) → IsColonHex text segments → (length segments ≡ 8) × AllSegments segments
colon_hex_fit text segments (inl (groups, all)) = (all, groups_fit true [] text segments groups)
colon_hex_fit text segments (inr is) = elided_fit text segments is

eight_segments : (a b c d e f g h : ℕ) → a < 2 ^ 16 → b < 2 ^ 16 → c < 2 ^ 16 → d < 2 ^ 16 → e < 2 ^ 16 → f < 2 ^ 16 → g < 2 ^ 16 → h < 2 ^ 16 →
    HasSize ipv6 (octets_of (a ∷ b ∷ c ∷ d ∷ e ∷ f ∷ g ∷ h ∷ []))
eight_segments a b c d e f g h fa fb fc fd fe ff fg fh = (refl, omega arith)

segments_size : (segments : List ℕ) → length segments ≡ 8 → AllSegments segments → HasSize ipv6 (octets_of segments)
segments_size segments long fit =
    subst (λ s. HasSize ipv6 (octets_of s)) (sym (eight_items segments long))
    (eight_segments _ _ _ _ _ _ _ _ (fit 0) (fit 1) (fit 2) (fit 3) (fit 4) (fit 5) (fit 6) (fit 7))

pub address_size : (f : Family) (text octets : List ℕ) → IsAddressText f text octets → HasSize f octets
address_size ipv4 text octets is = dotted_size text octets is
address_size ipv6 text octets (segments, is, value) =
    let (long, fit) = colon_hex_fit text segments is in
    subst (HasSize ipv6) (sym value) (segments_size segments long fit)
