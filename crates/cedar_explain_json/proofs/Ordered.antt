-- Members, one behind the other.
use Rattle.std.proofs.Common.{◌≡◌, List, [], ◌∷◌, ◌++◌, append_assoc, append-nil, sym, ap, ◌∙◌}

-- these, and then those
pub two_put : {B : Type 0} (before mid after x y : List B) → mid ≡ before ++ x → after ≡ mid ++ y
    → after ≡ before ++ (x ++ y)
two_put {B} before mid after x y first second =
    second ∙ ap (λ (l : List B). l ++ y) first ∙ append_assoc before x y

pub two_members : {B : Type 0} (zero one two : List B) (a b : B) → zero ≡ [] → one ≡ zero ++ a ∷ []
    → two ≡ one ++ b ∷ [] → two ≡ a ∷ b ∷ []
two_members {B} zero one two a b none first second =
    second ∙ ap (λ (l : List B). l ++ b ∷ []) (first ∙ ap (λ (l : List B). l ++ a ∷ []) none)

pub four_put : {B : Type 0} (zero one two three four a b c d : List B) → zero ≡ [] → one ≡ zero ++ a → two ≡ one ++ b
    → three ≡ two ++ c → four ≡ three ++ d → four ≡ a ++ b ++ c ++ d
four_put {B} zero one two three four a b c d none first second third fourth =
    fourth ∙ ap (λ (l : List B). l ++ d) (third ∙ ap (λ (l : List B). l ++ c) (second
    ∙ ap (λ (l : List B). l ++ b) (first ∙ ap (λ (l : List B). l ++ a) none)))

pub five_put : {B : Type 0} (zero one two three four five a b c d e : List B) → zero ≡ [] → one ≡ zero ++ a
    → two ≡ one ++ b → three ≡ two ++ c → four ≡ three ++ d → five ≡ four ++ e → five ≡ a ++ b ++ c ++ d ++ e
five_put {B} zero one two three four five a b c d e none first second third fourth fifth =
    fifth ∙ ap (λ (l : List B). l ++ e) (four_put zero one two three four a b c d none first second third fourth)
