-- What `range_of` reads is what the grammar says.
use Rattle.std.proofs.Common.{◌≡◌, ℕ, ◌^◌, ◌<◌, ◌≤◌, ◌⊎◌, Bool, true, false, cond, List, [], ◌∷◌, ◌++◌, length, Option, Some, None, refl, arith, ap, ◌∙◌, sym, subst, lit<, decimal, append_assoc, inl, inr}
use Rattle.std.specs.Option.{option_map}
use Rattle.std.specs.List.{before_first, after_first, position_or_len}
use Rattle.std.specs.Net.Reader.{read_ipv6, whole_value}
use Rattle.std.specs.Net.Addr.{octets_of}
use Rattle.std.proofs.lemmas.Bool.{cases_lt}
use Rattle.cedar_ip.specs.Ranges.{Family, ipv4, ipv6, Range, IsRange, size}
use Rattle.cedar_ip.specs.Texts.{ipv4_octets_of, ipv6_octets_of, prefix_behind, range_with, range_of_either, range_of_parts, is_slash, behind_slash, is_refused, range_of}
use Rattle.cedar_ip.specs.Grammar.{IsAddressText, IsSingle, IsPrefixed, IsRangeText}
use Rattle.cedar_ip.proofs.AddressTexts.{ipv4_read, ipv6_read, ipv6_is_not_ipv4, ipv4_written, ipv6_written}
use Rattle.cedar_ip.proofs.PrefixTexts.{prefix_read, prefix_written}
use Rattle.cedar_ip.proofs.Slashes.{none_in_address, before_slash, after_slash, whole_before, none_behind, cut, uncut, behind_cut, behind_uncut}
use Rattle.cedar_ip.proofs.Bounded.{address_size}

size_small : (f : Family) → size f < 2 ^ 8
size_small ipv4 = lit< tt
size_small ipv6 = lit< tt

-- an address and a prefix are read
parts_read : (f : Family) (address octets : List ℕ) (digits : Option (List ℕ)) (prefix : ℕ) → IsAddressText f address octets →
    prefix_behind (size f) digits ≡ Some prefix →
    range_of_parts address digits ≡ Some (record { family = f; prefix = prefix; octets = octets })
parts_read ipv4 address octets digits prefix is h =
    ap (λ o. range_of_either o address digits) (ipv4_read address octets is) ∙ ap (λ p. range_with ipv4 p (Some octets)) h
parts_read ipv6 address octets digits prefix (segments, is, value) h =
    let read : ipv6_octets_of address ≡ Some octets = ap (option_map octets_of) (ipv6_read address segments is) ∙ ap Some (sym value) in
    ap (λ o. range_of_either o address digits) (ipv6_is_not_ipv4 address segments is) ∙ (λ i. range_with ipv6 (h i) (read i))

unrefused : (text : List ℕ) → is_refused text ≡ false → range_of text ≡ range_of_parts (before_first is_slash text) (behind_slash text)
unrefused text kept = ap (λ b. cond b None (range_of_parts (before_first is_slash text) (behind_slash text))) kept

pub range_read : (text : List ℕ) (r : Range) → IsRangeText text r → range_of text ≡ Some r
range_read text r (kept, inl is) =
    let none = none_in_address r.family text r.octets is.address in
    unrefused text kept ∙ (λ i. range_of_parts (whole_before text none i) (none_behind text none i))
    ∙ parts_read r.family text r.octets None r.prefix is.address (ap Some (sym is.all))
range_read text r (kept, inr is) =
    let none = none_in_address r.family is.address_text r.octets is.address in
    let spelled : text ≡ is.address_text ++ 47 ∷ decimal r.prefix = is.spelled ∙ append_assoc is.address_text (47 ∷ []) (decimal r.prefix) in
    unrefused text kept ∙ ap (λ t. range_of_parts (before_first is_slash t) (behind_slash t)) spelled
    ∙ (λ i. range_of_parts (before_slash is.address_text (decimal r.prefix) none i) (after_slash is.address_text (decimal r.prefix) none i))
    ∙ parts_read r.family is.address_text r.octets (Some (decimal r.prefix)) r.prefix is.address
    (prefix_read (size r.family) r.prefix (size_small r.family) is.fits)

-- what is read has both
with_written : (f : Family) (p : Option ℕ) (o : Option (List ℕ)) (r : Range) → range_with f p o ≡ Some r →
    (f ≡ r.family) × (p ≡ Some r.prefix) × (o ≡ Some r.octets)
with_written f None o r h = absurd (let e : ⊥ = cc in e)
with_written f (Some p) None r h = absurd (let e : ⊥ = cc in e)
with_written f (Some p) (Some o) r h =
    let made : Range = record { family = f; prefix = p; octets = o } in
    let same : made ≡ r = cc in
    (ap (λ x. x.family) same, ap (λ x. Some x.prefix) same, ap (λ x. Some x.octets) same)

mapped : (o : Option (List ℕ)) (x : List ℕ) → option_map octets_of o ≡ Some x → (s : List ℕ) × (o ≡ Some s) × (x ≡ octets_of s)
mapped None x h = absurd (let e : ⊥ = cc in e)
mapped (Some s) x h = (s, refl, cc)

record IsParts (text : List ℕ) (digits : Option (List ℕ)) (r : Range) : Type 0 where
  address : IsAddressText r.family text r.octets
  prefix : prefix_behind (size r.family) digits ≡ Some r.prefix

parts_written : (address_text : List ℕ) (digits : Option (List ℕ)) (r : Range) → range_of_parts address_text digits ≡ Some r → IsParts address_text digits r
parts_written address_text digits r h = by (ipv4_octets_of address_text) refl h
  where
    of_family : (f : Family) → f ≡ r.family → IsAddressText f address_text r.octets → prefix_behind (size f) digits ≡ Some r.prefix →
        IsParts address_text digits r
    of_family f same is p = record {
      address = subst (λ g. IsAddressText g address_text r.octets) same is;
      prefix = subst (λ g. prefix_behind (size g) digits ≡ Some r.prefix) same p;
    }

    by : (o : Option (List ℕ)) → ipv4_octets_of address_text ≡ o → range_of_either o address_text digits ≡ Some r → IsParts address_text digits r
    by (Some octets) e h =
        let (same, p, o) = with_written ipv4 (prefix_behind 32 digits) (Some octets) r h in
        of_family ipv4 same (ipv4_written address_text r.octets (e ∙ o)) p
    by None e h =
        let (same, p, o) = with_written ipv6 (prefix_behind 128 digits) (ipv6_octets_of address_text) r h in
        let (segments, reads, value) = mapped (whole_value (read_ipv6 address_text)) r.octets o in
        of_family ipv6 same (segments, ipv6_written address_text segments reads, value) p

kept_part : (b : Bool) (o : Option Range) (r : Range) → cond b None o ≡ Some r → (b ≡ false) × (o ≡ Some r)
kept_part true o r h = (cc, cc)
kept_part false o r h = (refl, h)

pub range_written : (text : List ℕ) (r : Range) → range_of text ≡ Some r → IsRangeText text r
range_written text r h =
    let (kept, parts) = kept_part (is_refused text) (range_of_parts (before_first is_slash text) (behind_slash text)) r h in
    (kept, by parts (cases_lt (position_or_len is_slash text) (length text)))
  where
    by : range_of_parts (before_first is_slash text) (behind_slash text) ≡ Some r →
        (position_or_len is_slash text < length text) ⊎ (length text ≤ position_or_len is_slash text) →
        IsSingle text r ⊎ IsPrefixed text r
    by parts (inl within) =
        let rest = after_first is_slash text in
        let front = before_first is_slash text in
        let is = parts_written front (Some rest) r (ap (range_of_parts front) (sym (behind_cut text within)) ∙ parts) in
        let (digits, fits) = prefix_written (size r.family) rest r.prefix (size_small r.family) is.prefix in
        inr (record {
          address_text = front;
          spelled = cut text within ∙ ap (λ d. front ++ 47 ∷ d) digits ∙ sym (append_assoc front (47 ∷ []) (decimal r.prefix));
          address = is.address;
          fits = fits;
        })
    by parts (inr past) =
        let same : range_of_parts text None ≡ range_of_parts (before_first is_slash text) (behind_slash text) =
        λ i. range_of_parts (sym (uncut text past) i) (sym (behind_uncut text past) i) in
        let is = parts_written text None r (same ∙ parts) in
        let all : size r.family ≡ r.prefix = (let e : Some (size r.family) ≡ Some r.prefix = is.prefix in cc) in
        inl (record { address = is.address; all = sym all })

-- and it is a range
pub range_is : (text : List ℕ) (r : Range) → range_of text ≡ Some r → IsRange r
range_is text r h = by (range_written text r h)
  where
    made : (address : List ℕ) → IsAddressText r.family address r.octets → r.prefix ≤ size r.family → IsRange r
    made address is fits = let (whole, low) = address_size r.family address r.octets is in record { whole = whole; an_address = low; fits = fits }

    by : IsRangeText text r → IsRange r
    by (kept, inl is) = let all : r.prefix ≡ size r.family = is.all in made text is.address (omega arith)
    by (kept, inr is) = made is.address_text is.address is.fits
