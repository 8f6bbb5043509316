-- The texts between a text and the first one behind those that begin with it.
use Rattle.std.specs.Char.{IsScalar}
use Rattle.std.specs.Str.{all_scalars}
use Rattle.std.specs.Cmp.Lexicographic.{slice_cmp}
use Rattle.std.specs.Ordering.{ordering_then, is_le, is_lt}
use Rattle.std.proofs.Common.{◌≡◌, ◌∙◌, ℕ, ◌+◌, ◌<◌, ◌≤◌, Bool, true, false, cond, ◌&&◌, ◌==◌, List, [], ◌∷◌, Option, Some, None, refl, option_map, sym, ap, subst, inl, inr, ◌⊎◌, ne_eqb, eq-eqb, arith, Ordering, Less, Equal, Greater, nat_cmp}
use Rattle.std.proofs.lemmas.Bool.{and_parts}
use Rattle.std.proofs.lemmas.Bool.Decides.{Decides-eqb}
use Rattle.std.proofs.lemmas.Bool.{cases_order}
use Rattle.std.proofs.Math.Utf8.{scalar, scalar_cases}
use Rattle.std.specs.Cmp.{nat_cmp_is}
use Rattle.cedar_sql.specs.Patterns.{next_character, with_first, behind}
use Rattle.cedar_sql.proofs.Matching.{starts}

abbrev compared : List ℕ → List ℕ → Ordering
compared xs ys = slice_cmp nat_cmp xs ys

-- from the first on, and before the end, if there is one
abbrev pub in_range : List ℕ → Option (List ℕ) → List ℕ → Bool
in_range cs None ds = is_le (compared cs ds)
in_range cs (Some es) ds = is_le (compared cs ds) && is_lt (compared ds es)

-- what the tests of a next character say
of_last : (q : Bool) (n : ℕ) → cond q None (Some n) ≡ None → q ≡ true
of_last true n is = refl
of_last false n is = absurd (cc)

of_other : (q : Bool) (n e : ℕ) → cond q None (Some n) ≡ Some e → n ≡ e
of_other true n e is = absurd (cc)
of_other false n e is = cc

none_above : (c d : ℕ) → IsScalar d → next_character c ≡ None → d ≤ c
none_above c d s is =
    let last : c ≡ 0x10FFFF = (Decides-eqb c 0x10FFFF).0 (of_last (c == 0x10FFFF) _ is) in
    elim (scalar_cases d s) [ inl l ↦ omega arith | inr l ↦ omega arith ]

after_gap : (q : Bool) (c d : ℕ) → (q ≡ true → c ≡ 0xD7FF) → (d < 55296) ⊎ ((57344 ≤ d) × (d < 1114112)) → c < d → cond q 0xE000 (c + 1) ≤ d
after_gap true c d gap s l = let at : c ≡ 0xD7FF = gap refl in elim s [ inl m ↦ absurd (omega arith) | inr m ↦ omega arith ]
after_gap false c d gap s l = omega arith

none_between : (c d e : ℕ) → IsScalar d → next_character c ≡ Some e → c < d → e ≤ d
none_between c d e s is l =
    let same : cond (c == 0xD7FF) 0xE000 (c + 1) ≡ e = of_other (c == 0x10FFFF) _ e is in
    subst (λ (n : ℕ). n ≤ d) same (after_gap (c == 0xD7FF) c d (Decides-eqb c 0xD7FF).0 (scalar_cases d s) l)

gap_above : (q : Bool) (c : ℕ) → (q ≡ true → c ≡ 0xD7FF) → c < cond q 0xE000 (c + 1)
gap_above true c gap = let at : c ≡ 0xD7FF = gap refl in omega arith
gap_above false c gap = omega arith

is_above : (c e : ℕ) → next_character c ≡ Some e → c < e
is_above c e is = subst (λ (n : ℕ). c < n) (of_other (c == 0x10FFFF) _ e is) (gap_above (c == 0xD7FF) c (Decides-eqb c 0xD7FF).0)

-- ---- one character

below : (x y : ℕ) → x < y → nat_cmp x y ≡ Less
below x y h = sym (nat_cmp_is x y Less h)

level : (x y : ℕ) → x ≡ y → nat_cmp x y ≡ Equal
level x y h = sym (nat_cmp_is x y Equal h)

above : (x y : ℕ) → y < x → nat_cmp x y ≡ Greater
above x y h = sym (nat_cmp_is x y Greater h)

and_false : (b : Bool) → (b && false) ≡ false
and_false true = refl
and_false false = refl

and_true : (b : Bool) → (b && true) ≡ b
and_true true = refl
and_true false = refl

other_first : (c d : ℕ) (b : Bool) → (c ≡ d → ⊥) → false ≡ ((c == d) && b)
other_first c d b other = ap (λ q. q && b) (sym (ne_eqb c d other))

same_first : (c d : ℕ) (b : Bool) → c ≡ d → b ≡ ((c == d) && b)
same_first c d b same = ap (λ q. q && b) (sym (eq-eqb c d same))

-- ---- texts

nothing_in_range : (c : ℕ) (cs : List ℕ) (o : Option (List ℕ)) → in_range (c ∷ cs) o [] ≡ false
nothing_in_range c cs None = refl
nothing_in_range c cs (Some es) = refl

not_before_nothing : (ds : List ℕ) → is_lt (compared ds []) ≡ false
not_before_nothing [] = refl
not_before_nothing (d ∷ ds) = refl

not_before : (d e : ℕ) (ds : List ℕ) → e ≤ d → is_lt (compared (d ∷ ds) (e ∷ [])) ≡ false
not_before d e ds h = elim (cases_order d e) [
  | inl q ↦ ap (λ o. is_lt (ordering_then o (compared ds []))) (level d e q) ∙ not_before_nothing ds
  | inr l ↦ elim l [
    | inl m ↦ absurd (omega arith)
    | inr m ↦ ap (λ o. is_lt (ordering_then o (compared ds []))) (above d e m)
  ]
]

-- the end goes on with a text behind those that begin with what follows
longer_end : (c d : ℕ) (cs ds es : List ℕ) → in_range cs (Some es) ds ≡ starts cs ds → in_range (c ∷ cs) (Some (c ∷ es)) (d ∷ ds) ≡ starts (c ∷ cs) (d ∷ ds)
longer_end c d cs ds es more = elim (cases_order c d) [
  | inl q ↦
      (λ i. is_le (ordering_then (level c d q i) (compared cs ds)) && is_lt (ordering_then (level d c (sym q) i) (compared ds es)))
      ∙ more ∙ same_first c d (starts cs ds) q
  | inr l ↦ elim l [
    | inl m ↦
        (λ i. is_le (ordering_then (nat_cmp c d) (compared cs ds)) && is_lt (ordering_then (above d c m i) (compared ds es)))
        ∙ and_false _ ∙ other_first c d (starts cs ds) (λ q. omega arith)
    | inr m ↦
        (λ i. is_le (ordering_then (above c d m i) (compared cs ds)) && is_lt (ordering_then (nat_cmp d c) (compared ds es)))
        ∙ other_first c d (starts cs ds) (λ q. omega arith)
  ]
]

-- there is no end
no_end : (c d : ℕ) (cs ds : List ℕ) → d ≤ c → in_range cs None ds ≡ starts cs ds → in_range (c ∷ cs) None (d ∷ ds) ≡ starts (c ∷ cs) (d ∷ ds)
no_end c d cs ds h more = elim (cases_order c d) [
  | inl q ↦ (λ i. is_le (ordering_then (level c d q i) (compared cs ds))) ∙ more ∙ same_first c d (starts cs ds) q
  | inr l ↦ elim l [
    | inl m ↦ absurd (omega arith)
    | inr m ↦ (λ i. is_le (ordering_then (above c d m i) (compared cs ds))) ∙ other_first c d (starts cs ds) (λ q. omega arith)
  ]
]

-- the end is the next character
next_end : (c d e : ℕ) (cs ds : List ℕ) → c < e → (c < d → e ≤ d) → in_range cs None ds ≡ starts cs ds
    → in_range (c ∷ cs) (Some (e ∷ [])) (d ∷ ds) ≡ starts (c ∷ cs) (d ∷ ds)
next_end c d e cs ds h next more = elim (cases_order c d) [
  | inl q ↦
      (λ i. is_le (ordering_then (level c d q i) (compared cs ds)) && is_lt (ordering_then (below d e (omega arith) i) (compared ds [])))
      ∙ and_true _ ∙ more ∙ same_first c d (starts cs ds) q
  | inr l ↦ elim l [
    | inl m ↦
        (λ i. is_le (ordering_then (nat_cmp c d) (compared cs ds)) && not_before d e ds (next m) i)
        ∙ and_false _ ∙ other_first c d (starts cs ds) (λ q. omega arith)
    | inr m ↦
        (λ i. is_le (ordering_then (above c d m i) (compared cs ds)) && is_lt (compared (d ∷ ds) (e ∷ [])))
        ∙ other_first c d (starts cs ds) (λ q. omega arith)
  ]
]

module _ (c d : ℕ) (cs ds : List ℕ) (s : IsScalar d) where
  ends_next : (n : Option ℕ) → next_character c ≡ n → in_range cs None ds ≡ starts cs ds
      → in_range (c ∷ cs) (option_map (λ e. e ∷ []) n) (d ∷ ds) ≡ starts (c ∷ cs) (d ∷ ds)
  ends_next None is more = no_end c d cs ds (none_above c d s is) more
  ends_next (Some e) is more = next_end c d e cs ds (is_above c e is) (none_between c d e s is) more

  ends_so : (o : Option (List ℕ)) → in_range cs o ds ≡ starts cs ds → in_range (c ∷ cs) (with_first c o) (d ∷ ds) ≡ starts (c ∷ cs) (d ∷ ds)
  ends_so None more = ends_next (next_character c) refl more
  ends_so (Some es) more = longer_end c d cs ds es more

-- the range has the texts that begin with its first one
pub range_is : (cs ds : List ℕ) → all_scalars ds ≡ true → in_range cs (behind cs) ds ≡ starts cs ds
range_is [] [] s = refl
range_is [] (d ∷ ds) s = refl
range_is (c ∷ cs) [] s = nothing_in_range c cs (behind (c ∷ cs))
range_is (c ∷ cs) (d ∷ ds) s =
    let parts = and_parts (scalar d) (all_scalars ds) s in ends_so c d cs ds parts.0 (behind cs) (range_is cs ds parts.1)
