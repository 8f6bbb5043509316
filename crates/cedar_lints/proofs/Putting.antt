-- What a set of keys has, name by name, after one was put in.
use Rattle.std.proofs.Common.{◌≡◌, refl, sym, ap, ◌∙◌, Bool, true, false, ◌||◌, List}
use Rattle.std.proofs.Math.Bool.{or-false, or-true}
use Rattle.std.specs.Bool.{Decides}
use Rattle.std.specs.List.{list_any}
use Rattle.std.specs.Set.{KeepsOthers}

-- a set whose order ties keys by their names
module _ {K N : Type 0} (name : K → N) (eq : N → N → Bool) (decides : (m n : N) → Decides (eq m n) (m ≡ n))
    (tied : K → K → Bool) (by_name : (x y : K) → tied x y ≡ eq (name x) (name y)) where
  abbrev pub among : List K → N → Bool
  among us n = list_any (λ u. eq n (name u)) us

  -- a key is there where its name is
  pub asked_by_name : (k : K) (us : List K) → list_any (tied k) us ≡ among us (name k)
  asked_by_name k us = λ i. list_any (λ x. by_name k x i) us

  module _ (old new : List K) (key : K) (there : list_any (tied key) new ≡ true)
      (others : KeepsOthers tied (tied key) old new) where
    put_at : (n : N) (b : Bool) → eq n (name key) ≡ b → among new n ≡ (among old n || b)
    unfolding KeepsOthers
    put_at n true h =
        ap (among new) ((decides n (name key)).0 h) ∙ sym (asked_by_name key new) ∙ there ∙ sym (or-true (among old n))
    put_at n false h =
        let own : (x y : K) → eq n (name x) ≡ true → eq n (name y)
        ≡ tied x y = λ x y e. ap (λ m. eq m (name y)) ((decides n (name x)).0 e) ∙ sym (by_name x y) in
        let apart : (u : K) → tied key u ≡ true → eq n (name u)
        ≡ false = λ u e. ap (λ m. eq n m) (sym ((decides (name key) (name u)).0 (sym (by_name key u) ∙ e))) ∙ h in
        others (λ u. eq n (name u)) own apart ∙ sym (or-false (among old n))

    pub put_by_name : (n : N) → among new n ≡ (among old n || eq n (name key))
    put_by_name n = put_at n (eq n (name key)) refl
