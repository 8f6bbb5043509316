-- Those of a list that are kept: of two lists, of one element, by a test, and distinct ones.
use Rattle.std.proofs.Common.{◌≡◌, refl, sym, ap, ◌∙◌, subst, Bool, true, false, cond, List, [], ◌∷◌, ◌++◌}
use Rattle.std.specs.List.{filter, IsDistinct, AllByRecursion}
use Rattle.cedar_search.specs.Kept.{AreKept}

module _ {K : Type 0} (Is : K → Bool → Type 0) where
  cond_append : (b : Bool) (k : K) (rest more : List K) → cond b (k ∷ rest) rest ++ more ≡ cond b (k ∷ (rest ++ more)) (rest ++ more)
  cond_append true k rest more = refl
  cond_append false k rest more = refl

  pub kept_both : (xs ys xs' ys' : List K) → AreKept Is xs xs' → AreKept Is ys ys' → AreKept Is (xs ++ ys) (xs' ++ ys')
  kept_both [] ys xs' ys' h g = subst (λ l. AreKept Is ys (l ++ ys')) (sym h) g
  kept_both (x ∷ xs) ys xs' ys' (b, rest, is, h, e) g =
      (b, rest ++ ys', is, kept_both xs ys rest ys' h g, ap (λ l. l ++ ys') e ∙ cond_append b x rest ys')

  pub kept_one : (k : K) (b : Bool) → Is k b → AreKept Is (k ∷ []) (cond b (k ∷ []) [])
  kept_one k b is = (b, [], is, refl, refl)

  pub kept_by : (f : K → Bool) → ((k : K) (b : Bool) → Is k b → b ≡ f k) → (ks kept : List K) → AreKept Is ks kept → kept ≡ filter f ks
  kept_by f same [] kept h = h
  kept_by f same (k ∷ ks) kept (b, rest, is, h, e) =
      e ∙ ap (λ c. cond c (k ∷ rest) rest) (same k b is) ∙ ap (λ l. cond (f k) (k ∷ l) l) (kept_by f same ks rest h)

  module _ (eq : K → K → Bool) where
    all_cond : (x k : K) (b : Bool) (rest : List K) → eq x k ≡ false → AllByRecursion (λ y. eq x y ≡ false) rest
        → AllByRecursion (λ y. eq x y ≡ false) (cond b (k ∷ rest) rest)
    all_cond x k true rest is all = (is, all)
    all_cond x k false rest is all = all

    all_kept : (x : K) (ks kept : List K) → AreKept Is ks kept → AllByRecursion (λ y. eq x y ≡ false) ks
        → AllByRecursion (λ y. eq x y ≡ false) kept
    all_kept x [] kept h all = subst (AllByRecursion (λ y. eq x y ≡ false)) (sym h) tt
    all_kept x (k ∷ ks) kept (b, rest, is, h, e) (here, all) =
        subst (AllByRecursion (λ y. eq x y ≡ false)) (sym e) (all_cond x k b rest here (all_kept x ks rest h all))

    distinct_cond : (k : K) (b : Bool) (rest : List K) → AllByRecursion (λ y. eq k y ≡ false) rest → IsDistinct eq rest
        → IsDistinct eq (cond b (k ∷ rest) rest)
    unfolding IsDistinct
    distinct_cond k true rest all d = (all, d)
    distinct_cond k false rest all d = d

    pub kept_distinct : (ks kept : List K) → AreKept Is ks kept → IsDistinct eq ks → IsDistinct eq kept
    unfolding IsDistinct
    kept_distinct [] kept h d = subst (IsDistinct eq) (sym h) tt
    kept_distinct (k ∷ ks) kept (b, rest, is, h, e) (all, d) =
        subst (IsDistinct eq) (sym e) (distinct_cond k b rest (all_kept k ks rest h all) (kept_distinct ks rest h d))
