-- Lines that are put one behind the other.
use Rattle.std.proofs.Common.{◌≡◌, suc, ◌+◌, ◌<◌, List, [], ◌∷◌, ◌++◌, map, flat_map, drop, append-nil, append_assoc, sym, ap, ◌∙◌}
use Rattle.std.proofs.lemmas.List.{map-append}

-- one more
pub one_more : {A B : Type 0} (f : A → B) (xs ys : List A) (x : A) → ys ≡ xs ++ x ∷ [] → map f ys ≡ map f xs ++ f x ∷ []
one_more {A} {B} f xs ys x is = ap (map f) is ∙ map-append f xs (x ∷ [])

-- these, and then those
pub two_put : {B : Type 0} (before mid after x y : List B) → mid ≡ before ++ x → after ≡ mid ++ y → after ≡ before ++ (x ++ y)
two_put {B} before mid after x y first second = second ∙ ap (λ (l : List B). l ++ y) first ∙ append_assoc before x y

-- so many are done, and one more
pub goes_on : {B : Type 0} (done after more one rest all : List B) → after ≡ done ++ one → more ≡ one ++ rest
    → done ++ more ≡ all → after ++ rest ≡ all
goes_on {B} done after more one rest all is split whole =
    ap (λ (l : List B). l ++ rest) is ∙ append_assoc done one rest ∙ ap (λ (l : List B). done ++ l) (sym split) ∙ whole

-- nothing is left
pub no_more : {B : Type 0} (done all left : List B) → left ≡ [] → done ++ left ≡ all → done ≡ all
no_more {B} done all left is whole = sym (append-nil done) ∙ ap (λ (a : List B). done ++ a) (sym is) ∙ whole
