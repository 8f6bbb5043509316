-- One turn of a loop over a list.
use Rattle.std.proofs.Common.{◌≡◌, refl, sym, ap, ◌∙◌, ℕ, zero, suc, ◌+◌, ◌-◌, ◌<◌, ◌≤◌, List, [], ◌∷◌, ◌++◌, map, length, get_or, take, drop, append-nil, drop_of_length-le, take-append-drop, arith}
use Rattle.std.proofs.lemmas.List.{take_more}
use Rattle.cedar_model.specs.Terms.{EntityName}
use Rattle.cedar_names.specs.declared.names.EntityUID.{EntityUID}
use Rattle.cedar_names.specs.Names.{uid_name}
use Rattle.cedar_hierarchy.specs.Paths.{Parentage, AreLedTo}
use Rattle.cedar_hierarchy.specs.Listed.{HoldsTheSame}

-- nothing is left at the end
pub drop_none : {A : Type 0} (xs : List A) (i : ℕ) → length xs ≤ i → drop i xs ≡ []
drop_none xs i h = drop_of_length-le xs h

pub take_whole : {A : Type 0} (xs : List A) (i : ℕ) → length xs ≤ i → take i xs ≡ xs
take_whole xs i h = sym (append-nil (take i xs)) ∙ ap (λ ys. take i xs ++ ys) (sym (drop_none xs i h)) ∙ take-append-drop i xs

-- the same of names
pub length-names : (us : List EntityUID) → length (map uid_name us) ≡ length us
length-names [] = refl
length-names (u ∷ us) = ap suc (length-names us)

take-names : (us : List EntityUID) (i : ℕ) → take i (map uid_name us) ≡ map uid_name (take i us)
take-names us zero = refl
take-names [] (suc i) = refl
take-names (u ∷ us) (suc i) = ap (λ (ns : List EntityName). uid_name u ∷ ns) (take-names us i)

pub map-names : (us vs : List EntityUID) → map uid_name (us ++ vs) ≡ map uid_name us ++ map uid_name vs
map-names [] vs = refl
map-names (u ∷ us) vs = ap (λ (ns : List EntityName). uid_name u ∷ ns) (map-names us vs)

pub within_names : (us : List EntityUID) (i : ℕ) → i < length us → i < length (map uid_name us)
within_names us i h = rw length-names h

pub take_one_more : (us : List EntityUID) (i : ℕ) (u : EntityUID) → i < length us → u ≡ get_or us i u → take (i + 1) (map uid_name us) ≡ take i (map uid_name us) ++ uid_name u ∷ []
take_one_more us i u h is =
    take-names us (i + 1)
    ∙ ap (map uid_name) (take_more us i u h ∙ ap (λ (v : EntityUID). take i us ++ v ∷ []) (sym is))
    ∙ map-names (take i us) (u ∷ [])
    ∙ ap (λ (ns : List EntityName). ns ++ uid_name u ∷ []) (sym (take-names us i))

pub take_all_names : (us : List EntityUID) (i : ℕ) → length us ≤ i → take i (map uid_name us) ≡ map uid_name us
take_all_names us i h = take-names us i ∙ ap (map uid_name) (take_whole us i h)

-- a set has what the walk has found
pub same_led_to : (parents : Parentage) (a : EntityName) (us vs : List EntityUID) → HoldsTheSame us vs → AreLedTo parents a (map uid_name vs) → AreLedTo parents a (map uid_name us)
same_led_to parents a us vs same led = λ n. (λ h. (led n).0 (sym (same n) ∙ h), λ l. same n ∙ (led n).1 l)

-- fewer are left to be looked at
pub fewer_left : (all found done : ℕ) → found ≤ all → done < found → all - (done + 1) < all - done
fewer_left all found done h k = omega arith
