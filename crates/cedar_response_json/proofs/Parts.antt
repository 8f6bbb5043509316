-- Four members that are put one by one.
use Rattle.std.proofs.Common.{◌≡◌, List, [], ◌∷◌, ◌++◌, append_assoc, ap, ◌∙◌}

pub four_put : {T : Type 0} (old one two three four : List T) (a b c d : T) → one ≡ old ++ a ∷ [] → two ≡ one ++ b ∷ []
    → three ≡ two ++ c ∷ [] → four ≡ three ++ d ∷ [] → four ≡ old ++ a ∷ b ∷ c ∷ d ∷ []
four_put old one two three four a b c d e f g h =
    h ∙ ap (λ (x : List _). x ++ d ∷ []) (g ∙ ap (λ (x : List _). x ++ c ∷ []) (f ∙ ap (λ (x : List _). x ++ b ∷ []) e))
    ∙ append_assoc ((old ++ a ∷ []) ++ b ∷ []) (c ∷ []) (d ∷ [])
    ∙ append_assoc (old ++ a ∷ []) (b ∷ []) (c ∷ d ∷ [])
    ∙ append_assoc old (a ∷ []) (b ∷ c ∷ d ∷ [])
