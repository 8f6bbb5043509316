-- Things that are noted, one after another.
use Rattle.std.proofs.Common.{◌≡◌, true, false, cond, List, [], ◌∷◌, ◌++◌, refl, sym, ap, ◌∙◌}
use Rattle.cedar_lints.specs.Keys.{Key, Sheet, noted, noted_each, with_key}

module _ {A : Type 0} (key : A → Key) where
  -- those of two lists, one behind the other
  pub noted_each-append : (s : Sheet A) (xs ys : List A) → noted_each key s (xs ++ ys)
      ≡ noted_each key (noted_each key s xs) ys
  noted_each-append s [] ys = refl
  noted_each-append s (x ∷ xs) ys = noted_each-append (noted key s x) xs ys

  -- it was noted before, or is noted now
  pub noted_before : (s : Sheet A) (x : A) → s.has (key x) ≡ true → s ≡ noted key s x
  noted_before s x h =
      let made : Sheet A = record { has = with_key s.has (key x); items = s.items ++ x ∷ [] } in
      sym (ap (λ b. cond b s made) h)

  pub noted_now : (s t : Sheet A) (x : A) → s.has (key x) ≡ false → t.has ≡ with_key s.has (key x) → t.items
      ≡ s.items ++ x ∷ [] → t ≡ noted key s x
  noted_now s t x h has items =
      let made : Sheet A = record { has = with_key s.has (key x); items = s.items ++ x ∷ [] } in
      let same : t ≡ made = λ i. record { has = has i; items = items i } in
      same ∙ sym (ap (λ b. cond b s made) h)
