-- Lists of values, one for each of what they are of.
use Rattle.std.proofs.Common.{◌≡◌, List, [], ◌∷◌, ◌++◌, append_assoc, append-nil, sym, ap, subst, ◌∙◌}
use Rattle.json.specs.Json.{Json}
use Rattle.cedar_explain_json.specs.Documents.{AreEach, Adds}

-- one more
pub each_more : {A : Type 0} (Is : A → Json → Type 0) (all left rest : List A) (a : A) (before after : List Json)
    → left ≡ a ∷ rest → Adds (Is a) before after
    → ((js : List Json) → AreEach Is left js → AreEach Is all (before ++ js))
    → (js : List Json) → AreEach Is rest js → AreEach Is all (after ++ js)
each_more {A} Is all left rest a before after on (j, is, put) so js others =
    subst (AreEach Is all) (sym (ap (λ (l : List Json). l ++ js) put ∙ append_assoc before (j ∷ []) js))
    (so (j ∷ js) (subst (λ (xs : List A). AreEach Is xs (j ∷ js)) (sym on) (is, others)))

-- nothing is left
pub each_all : {A : Type 0} (Is : A → Json → Type 0) (all left : List A) (done : List Json) → left ≡ []
    → ((js : List Json) → AreEach Is left js → AreEach Is all (done ++ js)) → AreEach Is all done
each_all {A} Is all left done none so =
    subst (AreEach Is all) (append-nil done) (so [] (subst (λ (xs : List A). AreEach Is xs []) (sym none) tt))

-- what follows for each
pub each_as : {A : Type 0} (P Q : A → Json → Type 0) → ((a : A) (j : Json) → P a j → Q a j) → (xs : List A)
    (js : List Json) → AreEach P xs js → AreEach Q xs js
each_as P Q f [] [] h = tt
each_as P Q f [] (j ∷ js) h = h
each_as P Q f (a ∷ rest) [] h = h
each_as P Q f (a ∷ rest) (j ∷ js) (x, y) = (f a j x, each_as P Q f rest js y)
