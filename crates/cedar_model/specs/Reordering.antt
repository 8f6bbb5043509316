-- One list in another order.
use Rattle.std.specs.Prelude.{List, [], ◌∷◌}

pub data IsReordering (A : Type 0) : List A → List A → Type 0 where
  nothing : IsReordering A [] []
  keeping : {xs ys : List A} → (x : A) → IsReordering A xs ys → IsReordering A (x ∷ xs) (x ∷ ys)
  swapping : {xs : List A} → (x y : A) → IsReordering A (x ∷ (y ∷ xs)) (y ∷ (x ∷ xs))
  chaining : {xs ys zs : List A} → IsReordering A xs ys → IsReordering A ys zs → IsReordering A xs zs
