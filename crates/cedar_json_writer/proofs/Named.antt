-- Names that are put into a set stand once.
use Rattle.std.proofs.Common.{◌≡◌, Bool, true, false, cond, nat_eq, ◌||◌, List, [], ◌∷◌, ◌++◌, map, Global, if◌then◌else◌, refl, ap, ◌∙◌}
use Rattle.std.specs.Bool.{one_answer}
use Rattle.std.specs.Cmp.Lexicographic.{pointwise, bytes_decides}
use Rattle.std.specs.List.{list_any}
use Rattle.std.specs.Prelude.{bytes_eq}
use Rattle.std.specs.Rc.{rc_str_bytes}
use Rattle.std.specs.declared.rc.RcStr.{RcStr}
use Rattle.std.proofs.lemmas.Slice.Eq.{bytes_eq-Decides}
use Rattle.indexmap.specs.IndexSet.{insert_key}
use Rattle.cedar_model.specs.Terms.{Text}
use Rattle.cedar_model.specs.Outcomes.{has_text}
use Rattle.cedar_json_writer.specs.Texts.{text_once}

abbrev Shared : Type 0
Shared = RcStr Global

-- `==` of shared texts
abbrev pub shared_eq : Shared → Shared → Bool
shared_eq x y = pointwise nat_eq (rc_str_bytes x) (rc_str_bytes y)

same_test : (s t : Text) → pointwise nat_eq s t ≡ bytes_eq s t
same_test s t = one_answer (pointwise nat_eq s t) (bytes_eq s t) (bytes_decides s t) (bytes_eq-Decides s t)

any_has : (k : Shared) (ks : List Shared) → list_any (shared_eq k) ks ≡ has_text (rc_str_bytes k) (map rc_str_bytes ks)
unfolding has_text
any_has k [] = refl
any_has k (x ∷ ks) = λ i. same_test (rc_str_bytes k) (rc_str_bytes x) i || any_has k ks i

behind : (ks : List Shared) (k : Shared) → map rc_str_bytes (ks ++ k ∷ []) ≡ map rc_str_bytes ks ++ rc_str_bytes k ∷ []
behind [] k = refl
behind (x ∷ ks) k = ap (λ (ts : List Text). rc_str_bytes x ∷ ts) (behind ks k)

inserted_if : (b : Bool) (ks : List Shared) (k : Shared) (t : Text) → rc_str_bytes k ≡ t
    → map rc_str_bytes (if b then ks else ks ++ k ∷ []) ≡ cond b (map rc_str_bytes ks) (map rc_str_bytes ks ++ t ∷ [])
inserted_if true ks k t e = refl
inserted_if false ks k t e = behind ks k ∙ ap (λ (x : Text). map rc_str_bytes ks ++ x ∷ []) e

-- a name that is put into a set stands there once
pub inserted : (ks : List Shared) (k : Shared) (t : Text) → rc_str_bytes k ≡ t → map rc_str_bytes (insert_key shared_eq ks k) ≡ text_once t (map rc_str_bytes ks)
inserted ks k t e =
    inserted_if (list_any (shared_eq k) ks) ks k t e
    ∙ ap (λ b. cond b (map rc_str_bytes ks) (map rc_str_bytes ks ++ t ∷ [])) (any_has k ks ∙ ap (λ (x : Text). has_text x (map rc_str_bytes ks)) e)
