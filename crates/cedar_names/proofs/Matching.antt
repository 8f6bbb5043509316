-- The walk of the matcher.
use Rattle.std.proofs.Common.{◌≡◌, ℕ, zero, suc, ◌+◌, ◌*◌, ◌<◌, ◌≤◌, Bool, true, false, ◌&&◌, ◌||◌, ◌==◌, List, [], ◌∷◌, ◌++◌, map, length, drop, append_assoc, refl, sym, ap, subst, ◌∙◌, arith}
use Rattle.std.proofs.Math.Nat.{mul-le-mul_left}
use Rattle.std.proofs.lemmas.Bool.Decides.{Decides-eqb}
use Rattle.std.proofs.Math.Bool.{or-false}
use Rattle.std.proofs.lemmas.Bool.{or_right}
use Rattle.cedar_model.specs.Terms.{PatternPart, character, wildcard}
use Rattle.cedar_model.specs.Outcomes.{some_end, matches}

-- whether the test holds of some end but the whole
abbrev pub later : (List ℕ → Bool) → List ℕ → Bool
later test [] = false
later test (c ∷ cs) = some_end test cs

some_end-split : (test : List ℕ → Bool) (cs : List ℕ) → some_end test cs ≡ (test cs || later test cs)
unfolding some_end matches
some_end-split test [] = sym (or-false (test []))
some_end-split test (c ∷ cs) = refl

-- a wildcard may take one character more
longer : (test : List ℕ → Bool) (c : ℕ) (cs : List ℕ) → some_end test cs ≡ true → some_end test (c ∷ cs) ≡ true
unfolding some_end matches
longer test c cs e = or_right (test (c ∷ cs)) (some_end test cs) e

earlier : (test : List ℕ → Bool) (n : ℕ) (cs : List ℕ) → some_end test (drop (suc n) cs) ≡ true → some_end test (drop n cs) ≡ true
unfolding some_end matches
earlier test zero [] e = e
earlier test zero (c ∷ cs) e = longer test c cs e
earlier test (suc n) [] e = e
earlier test (suc n) (c ∷ cs) e = earlier test n cs e

one_earlier : (test : List ℕ → Bool) (n : ℕ) (c : ℕ) (cs : List ℕ) → some_end test (drop n cs) ≡ true → some_end test (drop n (c ∷ cs)) ≡ true
unfolding some_end matches
one_earlier test zero c cs e = longer test c cs e
one_earlier test (suc n) c cs e = earlier test n cs e

-- what begins with these characters and then a wildcard
behind : (seen : List ℕ) (qs : List PatternPart) (fs : List ℕ) → matches (map character seen ++ (wildcard ∷ qs)) fs ≡ true → some_end (matches qs) (drop (length seen) fs) ≡ true
unfolding some_end matches
behind [] qs fs e = e
behind (d ∷ seen) qs [] e = absurd (cc)
behind (d ∷ seen) qs (c ∷ fs) e = behind seen qs fs (second (d == c) (matches (map character seen ++ (wildcard ∷ qs)) fs) e)
  where
    second : (a b : Bool) → (a && b) ≡ true → b ≡ true
    second true b e = e
    second false b e = absurd (cc)

behind_some : (seen : List ℕ) (qs : List PatternPart) (fs : List ℕ) → some_end (matches (map character seen ++ (wildcard ∷ qs))) fs ≡ true → some_end (matches qs) (drop (length seen) fs) ≡ true
unfolding some_end matches
behind_some seen qs [] e = behind seen qs [] e
behind_some seen qs (c ∷ fs) e =
    either_way (matches (map character seen ++ (wildcard ∷ qs)) (c ∷ fs)) (some_end (matches (map character seen ++ (wildcard ∷ qs))) fs) e (behind seen qs (c ∷ fs)) (λ h. one_earlier (matches qs) (length seen) c fs (behind_some seen qs fs h))
  where
    either_way : {P : Type 0} (a b : Bool) → (a || b) ≡ true → (a ≡ true → P) → (b ≡ true → P) → P
    either_way true b e f g = f refl
    either_way false b e f g = g e

drop_seen : (seen ds : List ℕ) → drop (length seen) (seen ++ ds) ≡ ds
drop_seen [] ds = refl
drop_seen (c ∷ seen) ds = drop_seen seen ds

-- where an earlier wildcard could take more, the new one can too
enough : (seen : List ℕ) (qs : List PatternPart) (fs ds : List ℕ) → fs ≡ seen ++ ds → later (matches (map character seen ++ (wildcard ∷ qs))) fs ≡ true → some_end (matches qs) ds ≡ true
unfolding some_end matches
enough seen qs [] ds e h = absurd (cc)
enough seen qs (c ∷ fs) ds e h =
    subst (λ v. some_end (matches qs) v ≡ true) (ap (drop (length seen)) e ∙ drop_seen seen ds) (one_earlier (matches qs) (length seen) c fs (behind_some seen qs fs h))

-- what the walk keeps: ps and cs are all, qs and ds what is left, ms and fs what followed the last wildcard
pub record IsWalk (ps : List PatternPart) (cs : List ℕ) (qs : List PatternPart) (ds : List ℕ) (after : Bool) (ms : List PatternPart) (fs : List ℕ) : Type 0 where
  pub same : matches ps cs ≡ (matches qs ds || (after && later (matches ms) fs))
  pub seen : List ℕ
  pub more_is : ms ≡ map character seen ++ qs
  pub from_is : fs ≡ seen ++ ds

pub starts : (ps : List PatternPart) (cs : List ℕ) → IsWalk ps cs ps cs false ps cs
unfolding some_end matches
starts ps cs = record { same = sym (or-false (matches ps cs)); seen = []; more_is = refl; from_is = refl }

pub skips : {ps qs ms : List PatternPart} {cs ds fs : List ℕ} {after : Bool} (us : List PatternPart) → qs ≡ wildcard ∷ us → IsWalk ps cs qs ds after ms fs → IsWalk ps cs us ds true us ds
unfolding some_end matches
skips {ps} {qs} {ms} {cs} {ds} {fs} {after} us e w = record {
  same = w.same ∙ ap (λ v. matches v ds || (after && later (matches ms) fs)) e ∙ absorbed (some_end (matches us) ds) (after && later (matches ms) fs) (λ h. enough w.seen us fs ds w.from_is (ap (λ v. later (matches v) fs) (sym (w.more_is ∙ ap (λ v. map character w.seen ++ v) e)) ∙ second after (later (matches ms) fs) h)) ∙ some_end-split (matches us) ds;
  seen = [];
  more_is = refl;
  from_is = refl;
}
  where
    second : (a b : Bool) → (a && b) ≡ true → b ≡ true
    second true b e = e
    second false b e = absurd (cc)

    absorbed : (a b : Bool) → (b ≡ true → a ≡ true) → (a || b) ≡ a
    absorbed true b f = refl
    absorbed false true f = sym (f refl)
    absorbed false false f = refl

pub goes_on : {ps qs ms : List PatternPart} {cs ds fs : List ℕ} {after : Bool} (c : ℕ) (us : List PatternPart) (es : List ℕ) → qs ≡ character c ∷ us → ds ≡ c ∷ es → IsWalk ps cs qs ds after ms fs → IsWalk ps cs us es after ms fs
unfolding some_end matches
goes_on {ps} {qs} {ms} {cs} {ds} {fs} {after} c us es e f w = record {
  same = w.same ∙ (λ i. matches (e i) (f i) || (after && later (matches ms) fs)) ∙ ap (λ b. (b && matches us es) || (after && later (matches ms) fs)) (itself c);
  seen = w.seen ++ c ∷ [];
  more_is = w.more_is ∙ ap (λ v. map character w.seen ++ v) e ∙ parts_on w.seen;
  from_is = w.from_is ∙ ap (λ v. w.seen ++ v) f ∙ sym (append_assoc w.seen (c ∷ []) es);
}
  where
    itself : (n : ℕ) → (n == n) ≡ true
    itself n = (Decides-eqb n n).1 refl

    parts_on : (xs : List ℕ) → map character xs ++ (character c ∷ us) ≡ map character (xs ++ c ∷ []) ++ us
    parts_on [] = refl
    parts_on (x ∷ xs) = ap (λ v. character x ∷ v) (parts_on xs)

pub ends : {ps qs ms : List PatternPart} {cs ds fs : List ℕ} {after : Bool} → qs ≡ [] → ds ≡ [] → IsWalk ps cs qs ds after ms fs → true ≡ matches ps cs
unfolding some_end matches
ends {ps} {qs} {ms} {cs} {ds} {fs} {after} e f w = sym (w.same ∙ (λ i. matches (e i) (f i) || (after && later (matches ms) fs)))

pub fails : {ps qs ms : List PatternPart} {cs ds fs : List ℕ} {after : Bool} → after ≡ false → matches qs ds ≡ false → IsWalk ps cs qs ds after ms fs → false ≡ matches ps cs
unfolding some_end matches
fails {ps} {qs} {ms} {cs} {ds} {fs} {after} a differs w = sym (w.same ∙ (λ i. differs i || (a i && later (matches ms) fs)))

-- a new wildcard makes the measure smaller: a parts are left, m followed the wildcard before, and r of t characters
pub smaller : (a m r f t p : ℕ) → a + 1 ≤ m → r ≤ t → (a * (t + 1) + r) * (p + 1) + a < (m * (t + 1) + f) * (p + 1) + (a + 1)
smaller a m r f t p h k =
    let x : (t + 1) * (a + 1) ≤ (t + 1) * m = mul-le-mul_left (t + 1) h in
    let y : a * (t + 1) + r ≤ m * (t + 1) + f = omega (arith, x) in
    let z : (p + 1) * (a * (t + 1) + r) ≤ (p + 1) * (m * (t + 1) + f) = mul-le-mul_left (p + 1) y in
    omega (arith, z)
