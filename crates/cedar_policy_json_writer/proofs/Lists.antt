-- Lists that are written one by one.
use Rattle.std.proofs.Common.{◌≡◌, List, [], ◌∷◌, ◌++◌, append-nil, append_assoc, sym, ap, ◌∙◌}

-- nothing is left
pub no_more : {Y : Type 0} (done all left : List Y) → left ≡ [] → done ++ left ≡ all → done ≡ all
no_more {Y} done all left is whole = sym (append-nil done) ∙ ap (λ (a : List Y). done ++ a) (sym is) ∙ whole

-- three are put, one behind the other
pub three_put : {Y : Type 0} (before one two after : List Y) (x y z : Y) → one ≡ before ++ x ∷ [] → two ≡ one ++ y ∷ []
    → after ≡ two ++ z ∷ [] → after ≡ before ++ (x ∷ y ∷ z ∷ [])
three_put {Y} before one two after x y z first second third =
    third ∙ ap (λ (a : List Y). a ++ z ∷ []) (second ∙ ap (λ (a : List Y). a ++ y ∷ []) first)
    ∙ append_assoc (before ++ x ∷ []) (y ∷ []) (z ∷ []) ∙ append_assoc before (x ∷ []) (y ∷ z ∷ [])
