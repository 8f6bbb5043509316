-- What is found in one list and then in another.
use Rattle.std.proofs.Common.{◌≡◌, ap, ◌∙◌, Bool, List, ◌∷◌, Option, Some, None}
use Rattle.std.proofs.lemmas.List.Folds.{find-append}
use Rattle.std.specs.List.{find, flat_map}
use Rattle.std.specs.Option.{option_or}

module _ {A E : Type 0} (p : A → Bool) (parts : E → List A) (all : List E) (e : E) (rest : List E) where
  pub found_in_first : (x : A) → all ≡ e ∷ rest → find p (parts e) ≡ Some x → find p (flat_map parts all) ≡ Some x
  found_in_first x is h =
      ap (λ (es : List E). find p (flat_map parts es)) is ∙ find-append p (parts e) (flat_map parts rest)
      ∙ ap (λ (o : Option A). option_or o (find p (flat_map parts rest))) h

  pub found_in_rest : all ≡ e ∷ rest → find p (parts e) ≡ None → find p (flat_map parts all)
      ≡ find p (flat_map parts rest)
  found_in_rest is h =
      ap (λ (es : List E). find p (flat_map parts es)) is ∙ find-append p (parts e) (flat_map parts rest)
      ∙ ap (λ (o : Option A). option_or o (find p (flat_map parts rest))) h
