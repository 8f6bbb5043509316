-- What the said patterns match: one text, those that begin with it, those that have it in them.
use Rattle.std.specs.Cmp.Lexicographic.{slice_cmp}
use Rattle.std.specs.Ordering.{ordering_then}
use Rattle.std.proofs.Common.{◌≡◌, ◌∙◌, ℕ, Bool, true, false, ◌&&◌, ◌||◌, ◌==◌, List, [], ◌∷◌, refl, sym, ap, arith, Ordering, Less, Equal, Greater, nat_cmp, is_eq}
use Rattle.std.proofs.lemmas.Bool.Decides.{nat_tests}
use Rattle.cedar_model.specs.Terms.{PatternPart, character, wildcard}
use Rattle.cedar_model.specs.Outcomes.{some_end, matches}
use Rattle.cedar_sql.specs.Patterns.{is_plain, are_wildcards, is_front, behind_wildcards, characters}

-- whether the second begins with the first
abbrev pub starts : List ℕ → List ℕ → Bool
starts [] ds = true
starts (c ∷ cs) [] = false
starts (c ∷ cs) (d ∷ ds) = (c == d) && starts cs ds

-- whether the first stands somewhere in the second
abbrev pub stands_in : List ℕ → List ℕ → Bool
stands_in cs [] = starts cs []
stands_in cs (d ∷ ds) = starts cs (d ∷ ds) || stands_in cs ds

-- ---- one text

level_then : (o r : Ordering) → is_eq (ordering_then o r) ≡ (is_eq o && is_eq r)
level_then Less r = refl
level_then Equal r = refl
level_then Greater r = refl

level_is : (c d : ℕ) → is_eq (nat_cmp d c) ≡ (c == d)
level_is c d = grind (arith, nat_tests)

pub matches_plain : (ps : List PatternPart) (ds : List ℕ) → is_plain ps ≡ true → matches ps ds ≡ is_eq (slice_cmp nat_cmp ds (characters ps))
unfolding matches
matches_plain [] [] is = refl
matches_plain [] (d ∷ ds) is = refl
matches_plain (character c ∷ ps) [] is = refl
matches_plain (character c ∷ ps) (d ∷ ds) is =
    (λ i. sym (level_is c d) i && matches_plain ps ds is i) ∙ sym (level_then (nat_cmp d c) (slice_cmp nat_cmp ds (characters ps)))
matches_plain (wildcard ∷ ps) ds is = absurd (cc)

-- ---- texts that begin with it

wildcards_end : (ps : List PatternPart) → are_wildcards ps ≡ true → matches ps [] ≡ true
unfolding matches some_end
wildcards_end [] is = refl
wildcards_end (character c ∷ ps) is = absurd (cc)
wildcards_end (wildcard ∷ ps) is = wildcards_end ps is

or_true : (b : Bool) → (b || true) ≡ true
or_true true = refl
or_true false = refl

end_always : (test : List ℕ → Bool) (ds : List ℕ) → test [] ≡ true → some_end test ds ≡ true
unfolding some_end
end_always test [] is = is
end_always test (d ∷ ds) is = ap (λ b. test (d ∷ ds) || b) (end_always test ds is) ∙ or_true (test (d ∷ ds))

no_characters : (ps : List PatternPart) → are_wildcards ps ≡ true → characters ps ≡ []
no_characters [] is = refl
no_characters (character c ∷ ps) is = absurd (cc)
no_characters (wildcard ∷ ps) is = no_characters ps is

pub matches_front : (ps : List PatternPart) (ds : List ℕ) → is_front ps ≡ true → matches ps ds ≡ starts (characters ps) ds
unfolding matches
matches_front [] ds is = absurd (cc)
matches_front (character c ∷ ps) [] is = refl
matches_front (character c ∷ ps) (d ∷ ds) is = ap (λ b. (c == d) && b) (matches_front ps ds is)
matches_front (wildcard ∷ ps) ds is =
    end_always (matches ps) ds (wildcards_end ps is) ∙ ap (λ cs. starts cs ds) (sym (no_characters ps is))

-- ---- texts that have it in them

ends_alike : (test other : List ℕ → Bool) (ds : List ℕ) → ((es : List ℕ) → test es ≡ other es) → some_end test ds ≡ some_end other ds
unfolding some_end
ends_alike test other [] same = same []
ends_alike test other (d ∷ ds) same = λ i. same (d ∷ ds) i || ends_alike test other ds same i

end_is_in : (cs ds : List ℕ) → some_end (starts cs) ds ≡ stands_in cs ds
unfolding some_end
end_is_in cs [] = refl
end_is_in cs (d ∷ ds) = ap (λ b. starts cs (d ∷ ds) || b) (end_is_in cs ds)

once_more : (a b : Bool) → ((a || b) || b) ≡ (a || b)
once_more true b = refl
once_more false true = refl
once_more false false = refl

end_of_end : (cs ds : List ℕ) → some_end (stands_in cs) ds ≡ stands_in cs ds
unfolding some_end
end_of_end cs [] = refl
end_of_end cs (d ∷ ds) =
    ap (λ b. (starts cs (d ∷ ds) || stands_in cs ds) || b) (end_of_end cs ds) ∙ once_more (starts cs (d ∷ ds)) (stands_in cs ds)

within_if : (q : Bool) (ps : List PatternPart) (ds : List ℕ) → (q ≡ true → (es : List ℕ) → matches ps es ≡ starts (characters ps) es)
    → (q ≡ false → (es : List ℕ) → matches ps es ≡ stands_in (characters ps) es) → some_end (matches ps) ds ≡ stands_in (characters ps) ds
within_if true ps ds front within = ends_alike (matches ps) (starts (characters ps)) ds (front refl) ∙ end_is_in (characters ps) ds
within_if false ps ds front within = ends_alike (matches ps) (stands_in (characters ps)) ds (within refl) ∙ end_of_end (characters ps) ds

pub matches_within : (ps : List PatternPart) (ds : List ℕ) → is_front ps ≡ false → is_front (behind_wildcards ps) ≡ true
    → matches ps ds ≡ stands_in (characters ps) ds
unfolding matches
matches_within [] ds not is = absurd (cc)
matches_within (character c ∷ ps) ds not is = absurd (cc)
matches_within (wildcard ∷ ps) ds not is =
    within_if (is_front ps) ps ds (λ front es. matches_front ps es front) (λ other es. matches_within ps es other is)
