-- Ranges of loopback and of multicast addresses.
use Rattle.std.proofs.Common.{◌≡◌, ℕ, ◌^◌, ◌<◌, ◌⊎◌, true, ◌||◌, refl, arith, ◌∙◌, sym, subst, lit<, lit≤, inl, inr}
use Rattle.std.proofs.lemmas.Bool.{or_cases, or_left, or_right}
use Rattle.cedar_ip.specs.Ranges.{Family, ipv4, ipv6, Range, IsRange, key_of_range}
use Rattle.cedar_ip.specs.Keys.{is_in_range, is_loopback, is_multicast}
use Rattle.cedar_ip.specs.Addresses.{IsIn, IsWithin, loopback_ipv4, loopback_ipv6, multicast_ipv4, multicast_ipv6, IsLoopback, IsMulticast, EachIsLoopback, EachIsMulticast}
use Rattle.cedar_ip.proofs.Covered.{in_range_to, in_range_from}

loopback4 : IsRange loopback_ipv4
loopback4 = record { whole = refl; an_address = lit< tt; fits = lit≤ tt }

loopback6 : IsRange loopback_ipv6
loopback6 = record { whole = refl; an_address = lit< tt; fits = lit≤ tt }

multicast4 : IsRange multicast_ipv4
multicast4 = record { whole = refl; an_address = lit< tt; fits = lit≤ tt }

multicast6 : IsRange multicast_ipv6
multicast6 = record { whole = refl; an_address = lit< tt; fits = lit≤ tt }

-- the addresses of the four ranges are those of the two kinds
in_loopback4 : (f : Family) (a : ℕ) → IsIn loopback_ipv4 f a → IsLoopback f a
in_loopback4 ipv4 a h = h.same_prefix
in_loopback4 ipv6 a h = let other = h.same_family in cc

in_loopback6 : (f : Family) (a : ℕ) → IsIn loopback_ipv6 f a → IsLoopback f a
in_loopback6 ipv4 a h = let other = h.same_family in cc
in_loopback6 ipv6 a h = let same = h.same_prefix in omega arith

in_multicast4 : (f : Family) (a : ℕ) → IsIn multicast_ipv4 f a → IsMulticast f a
in_multicast4 ipv4 a h = h.same_prefix
in_multicast4 ipv6 a h = let other = h.same_family in cc

in_multicast6 : (f : Family) (a : ℕ) → IsIn multicast_ipv6 f a → IsMulticast f a
in_multicast6 ipv4 a h = let other = h.same_family in cc
in_multicast6 ipv6 a h = h.same_prefix

of_loopback4 : (a : ℕ) → a < 2 ^ 32 → IsLoopback ipv4 a → IsIn loopback_ipv4 ipv4 a
of_loopback4 a fits h = record { same_family = refl; an_address = fits; same_prefix = h }

of_loopback6 : (a : ℕ) → a < 2 ^ 128 → IsLoopback ipv6 a → IsIn loopback_ipv6 ipv6 a
of_loopback6 a fits h = record { same_family = refl; an_address = fits; same_prefix = omega arith }

of_multicast4 : (a : ℕ) → a < 2 ^ 32 → IsMulticast ipv4 a → IsIn multicast_ipv4 ipv4 a
of_multicast4 a fits h = record { same_family = refl; an_address = fits; same_prefix = h }

of_multicast6 : (a : ℕ) → a < 2 ^ 128 → IsMulticast ipv6 a → IsIn multicast_ipv6 ipv6 a
of_multicast6 a fits h = record { same_family = refl; an_address = fits; same_prefix = h }

-- one of two ranges, of which each has the addresses of the kind that are of its family
either : (r s t : Range) (Is : Family → ℕ → Type 0) → IsRange r → IsRange s → IsRange t →
    ((f : Family) (a : ℕ) → IsIn s f a → Is f a) → ((f : Family) (a : ℕ) → IsIn t f a → Is f a) →
    (is_in_range (key_of_range r) (key_of_range s) || is_in_range (key_of_range r) (key_of_range t)) ≡ true →
    (f : Family) (a : ℕ) → IsIn r f a → Is f a
either r s t Is is first second in_first in_second h = by (or_cases _ _ h)
  where
    by : (is_in_range (key_of_range r) (key_of_range s) ≡ true) ⊎ (is_in_range (key_of_range r) (key_of_range t) ≡ true) →
        (f : Family) (a : ℕ) → IsIn r f a → Is f a
    by (inl within) f a own = in_first f a (in_range_to r s is first within f a own)
    by (inr within) f a own = in_second f a (in_range_to r t is second within f a own)

pub loopback_to : (r : Range) → IsRange r → is_loopback (key_of_range r) ≡ true → EachIsLoopback r
loopback_to r is h = either r loopback_ipv4 loopback_ipv6 IsLoopback is loopback4 loopback6 in_loopback4 in_loopback6 h

pub multicast_to : (r : Range) → IsRange r → is_multicast (key_of_range r) ≡ true → EachIsMulticast r
multicast_to r is h = either r multicast_ipv4 multicast_ipv6 IsMulticast is multicast4 multicast6 in_multicast4 in_multicast6 h

-- where each address of a range is of the kind, and the range of that family has all of the kind
within_own : (r s : Range) (Is : Family → ℕ → Type 0) → r.family ≡ s.family →
    ((a : ℕ) → IsIn r s.family a → Is s.family a → IsIn s s.family a) →
    ((f : Family) (a : ℕ) → IsIn r f a → Is f a) → IsWithin r s
within_own r s Is same own each f a h = by f (h.same_family ∙ same) h
  where
    by : (f : Family) → f ≡ s.family → IsIn r f a → IsIn s f a
    by f e h = subst (λ g. IsIn r g a → IsIn s g a) (sym e) (λ k. own a k (each s.family a k)) h

loopback_by : (r : Range) (f : Family) → r.family ≡ f → IsRange r → EachIsLoopback r → is_loopback (key_of_range r) ≡ true
loopback_by r ipv4 same is h =
    or_left (is_in_range (key_of_range r) (key_of_range loopback_ipv4)) (is_in_range (key_of_range r) (key_of_range loopback_ipv6))
    (in_range_from r loopback_ipv4 is loopback4
    (within_own r loopback_ipv4 IsLoopback same (λ a own kind. of_loopback4 a own.an_address kind) h))
loopback_by r ipv6 same is h =
    or_right (is_in_range (key_of_range r) (key_of_range loopback_ipv4)) (is_in_range (key_of_range r) (key_of_range loopback_ipv6))
    (in_range_from r loopback_ipv6 is loopback6
    (within_own r loopback_ipv6 IsLoopback same (λ a own kind. of_loopback6 a own.an_address kind) h))

multicast_by : (r : Range) (f : Family) → r.family ≡ f → IsRange r → EachIsMulticast r → is_multicast (key_of_range r) ≡ true
multicast_by r ipv4 same is h =
    or_left (is_in_range (key_of_range r) (key_of_range multicast_ipv4)) (is_in_range (key_of_range r) (key_of_range multicast_ipv6))
    (in_range_from r multicast_ipv4 is multicast4
    (within_own r multicast_ipv4 IsMulticast same (λ a own kind. of_multicast4 a own.an_address kind) h))
multicast_by r ipv6 same is h =
    or_right (is_in_range (key_of_range r) (key_of_range multicast_ipv4)) (is_in_range (key_of_range r) (key_of_range multicast_ipv6))
    (in_range_from r multicast_ipv6 is multicast6
    (within_own r multicast_ipv6 IsMulticast same (λ a own kind. of_multicast6 a own.an_address kind) h))

pub loopback_from : (r : Range) → IsRange r → EachIsLoopback r → is_loopback (key_of_range r) ≡ true
loopback_from r is h = loopback_by r r.family refl is h

pub multicast_from : (r : Range) → IsRange r → EachIsMulticast r → is_multicast (key_of_range r) ≡ true
multicast_from r is h = multicast_by r r.family refl is h
