-- Texts without a slash, and where a text is cut at one.
use Rattle.std.proofs.Common.{◌≡◌, ℕ, ◌+◌, ◌<◌, ◌≤◌, Bool, true, false, not, cond, nat_lt, List, [], ◌∷◌, ◌++◌, Some, None, refl, arith, length, take, drop, ap, sym, ◌∙◌, ◌==◌, codes, decimal, subst, inl, inr}
use Rattle.std.specs.List.{list_all, before_first, after_first, position_or_len}
use Rattle.std.specs.Char.{digit_value}
use Rattle.std.specs.Str.Parse.{AllDigits}
use Rattle.std.specs.Net.Grammar.{IsDotted, IsColonHex, IsGroupsAfter}
use Rattle.std.proofs.Math.Seq.{take-append_seam, drop-append-add, take-length}
use Rattle.std.proofs.lemmas.Bool.{and_parts, and_from, not_from_false, ne_eqb, eqb-true, lt-ltb}
use Rattle.std.proofs.lemmas.Bool.Decides.{nat_tests}
use Rattle.std.proofs.lemmas.Grind.{common_steps}
use Rattle.std.proofs.lemmas.List.Sums.{split_at_first, passes_at_first, prefix_len-le-length}
use Rattle.std.proofs.lemmas.List.Folds.{list_all-append}
use Rattle.std.proofs.lemmas.Fmt.{decimal_is_IsNumeral}
use Rattle.cedar_ip.specs.Ranges.{Family, ipv4, ipv6}
use Rattle.cedar_ip.specs.Texts.{is_slash, behind_slash}
use Rattle.cedar_ip.specs.Grammar.{IsAddressText}

-- no byte of the text is a slash
pub record HasNoSlash (text : List ℕ) : Type 0 where
  pub all : list_all (λ c. not (is_slash c)) text ≡ true

none_in_both : {xs ys : List ℕ} → HasNoSlash xs → HasNoSlash ys → HasNoSlash (xs ++ ys)
none_in_both {xs} {ys} h g = record {
  all =
      list_all-append (λ c. not (is_slash c)) xs ys
      ∙ and_from (list_all (λ c. not (is_slash c)) xs) (list_all (λ c. not (is_slash c)) ys) h.all g.all;
}

-- a slash is no digit, in no base up to 16
none_in_digits : (base : ℕ) (ds : List ℕ) → base ≤ 16 → AllDigits base ds → list_all (λ c. not (is_slash c)) ds ≡ true
none_in_digits base [] low digits = refl
none_in_digits base (c ∷ cs) low (digit, digits) =
    and_from (not (c == 47)) (list_all (λ c. not (is_slash c)) cs) (not_from_false (c == 47) (ne_eqb c 47 other))
    (none_in_digits base cs low digits)
  where
    other : c ≡ 47 → ⊥
    other e = let slash : 36 < base = subst (λ n. digit_value n < base) e digit in omega arith

none_in_decimal : (n : ℕ) → n < 256 → HasNoSlash (decimal n)
none_in_decimal n small = record {
  all = none_in_digits 10 (decimal n) (omega arith) (decimal_is_IsNumeral n (omega arith)).0.1;
}

dot : HasNoSlash (codes ".")
dot = record { all = refl }

none_in_dotted : (text octets : List ℕ) → IsDotted text octets → HasNoSlash text
none_in_dotted text octets is =
    let first = none_in_both (none_in_both (none_in_decimal is.a is.fit.0) dot) (none_in_decimal is.b is.fit.1) in
    let second = none_in_both (none_in_both first dot) (none_in_decimal is.c is.fit.2) in
    subst HasNoSlash (sym is.spelled) (none_in_both (none_in_both second dot) (none_in_decimal is.d is.fit.3))

none_in_groups : (may : Bool) (lead text segments : List ℕ) → HasNoSlash lead → IsGroupsAfter may lead text segments → HasNoSlash text
none_in_groups may lead text [] h is = subst HasNoSlash (sym is) (record { all = refl })
none_in_groups may lead text (s ∷ segments) h (inl (group, rest, spelled, number, more)) =
    let digits : HasNoSlash group = record { all = none_in_digits 16 group (omega arith) number.0.0.1 } in
    let others = none_in_groups may (codes ":") rest segments (record { all = refl }) more in
    subst HasNoSlash (sym spelled) (none_in_both (none_in_both h digits) others)
none_in_groups may lead text (s ∷ segments) h (inr (last, octets, allowed, spelled, dotted, value)) =
    subst HasNoSlash (sym spelled) (none_in_both h (none_in_dotted last octets dotted))

none_in_colon_hex : (text segments : List ℕ) → IsColonHex text segments → HasNoSlash text
none_in_colon_hex text segments (inl (groups, all)) = none_in_groups true [] text segments (record { all = refl }) groups
none_in_colon_hex text segments (inr is) =
    let head = none_in_groups false [] is.head_text is.head (record { all = refl }) is.head_groups in
    let tail = none_in_groups true [] is.tail_text is.tail (record { all = refl }) is.tail_groups in
    let colons : HasNoSlash (codes "::") = record { all = refl } in
    subst HasNoSlash (sym is.spelled) (none_in_both (none_in_both head colons) tail)

pub none_in_address : (f : Family) (text octets : List ℕ) → IsAddressText f text octets → HasNoSlash text
none_in_address ipv4 text octets is = none_in_dotted text octets is
none_in_address ipv6 text octets (segments, is, value) = none_in_colon_hex text segments is

-- the first slash stands behind such a text
slash_place : (text rest : List ℕ) → list_all (λ c. not (is_slash c)) text ≡ true → position_or_len is_slash (text ++ 47 ∷ rest) ≡ length text
slash_place [] rest h = refl
slash_place (c ∷ cs) rest h =
    let (other, others) = and_parts (not (c == 47)) (list_all (λ c. not (is_slash c)) cs) h in
    ap (λ b. cond b (1 + position_or_len is_slash (cs ++ 47 ∷ rest)) 0) other ∙ omega (arith, slash_place cs rest others)

no_place : (text : List ℕ) → list_all (λ c. not (is_slash c)) text ≡ true → position_or_len is_slash text ≡ length text
no_place [] h = refl
no_place (c ∷ cs) h =
    let (other, others) = and_parts (not (c == 47)) (list_all (λ c. not (is_slash c)) cs) h in
    ap (λ b. cond b (1 + position_or_len is_slash cs) 0) other ∙ omega (arith, no_place cs others)

pub before_slash : (text rest : List ℕ) → HasNoSlash text → before_first is_slash (text ++ 47 ∷ rest) ≡ text
before_slash text rest h = ap (λ n. take n (text ++ 47 ∷ rest)) (slash_place text rest h.all) ∙ take-append_seam text (47 ∷ rest)

pub after_slash : (text rest : List ℕ) → HasNoSlash text → behind_slash (text ++ 47 ∷ rest) ≡ Some rest
after_slash text rest h =
    let place = slash_place text rest h.all in
    let within : length text < length (text ++ 47 ∷ rest) = grind (arith, common_steps) in
    ap (λ n. cond (nat_lt n (length (text ++ 47 ∷ rest))) (Some (drop (n + 1) (text ++ 47 ∷ rest))) None) place
    ∙ ap (λ b. cond b (Some (drop (length text + 1) (text ++ 47 ∷ rest))) None) (lt-ltb _ _ within)
    ∙ ap Some (drop-append-add text (47 ∷ rest) 1)

pub whole_before : (text : List ℕ) → HasNoSlash text → before_first is_slash text ≡ text
whole_before text h = ap (λ n. take n text) (no_place text h.all) ∙ take-length text

pub none_behind : (text : List ℕ) → HasNoSlash text → behind_slash text ≡ None
none_behind text h =
    let none : nat_lt (length text) (length text) ≡ false = grind (arith, nat_tests) in
    ap (λ n. cond (nat_lt n (length text)) (Some (drop (n + 1) text)) None) (no_place text h.all)
    ∙ ap (λ b. cond b (Some (drop (length text + 1) text)) None) none

-- what stands before a slash and behind it, and a text where none stands
pub cut : (text : List ℕ) → position_or_len is_slash text < length text →
    text ≡ before_first is_slash text ++ 47 ∷ after_first is_slash text
cut text within =
    split_at_first is_slash text 0 within
    ∙ ap (λ c. before_first is_slash text ++ c ∷ after_first is_slash text) (eqb-true _ 47 (passes_at_first is_slash text 0 within))

pub uncut : (text : List ℕ) → length text ≤ position_or_len is_slash text → before_first is_slash text ≡ text
uncut text past =
    let place : position_or_len is_slash text ≡ length text = omega (arith, prefix_len-le-length (λ c. not (is_slash c)) text) in
    ap (λ n. take n text) place ∙ take-length text

pub behind_cut : (text : List ℕ) → position_or_len is_slash text < length text → behind_slash text ≡ Some (after_first is_slash text)
behind_cut text within = ap (λ b. cond b (Some (after_first is_slash text)) None) (lt-ltb _ _ within)

pub behind_uncut : (text : List ℕ) → length text ≤ position_or_len is_slash text → behind_slash text ≡ None
behind_uncut text past =
    let none : nat_lt (position_or_len is_slash text) (length text) ≡ false = grind (arith, nat_tests) in
    ap (λ b. cond b (Some (after_first is_slash text)) None) none
