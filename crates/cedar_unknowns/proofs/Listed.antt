-- Equality of unknowns, and lists of them in which each stands once.
use Rattle.std.proofs.Common.{◌≡◌, Bool, true, false, ◌&&◌, ◌||◌, List, [], ◌∷◌, ◌++◌, refl, ap, ◌∙◌, if◌then◌else◌}
use Rattle.std.specs.Bool.{Decides}
use Rattle.std.specs.List.{list_any}
use Rattle.std.specs.Rc.{rc_str_bytes}
use Rattle.std.proofs.lemmas.Bool.Decides.{Decides-and}
use Rattle.cedar_names.specs.declared.types.Unknown as unknowns
use Rattle.cedar_names.specs.contracts.types.TypePartialEq.TheImpl as derived_type
use Rattle.cedar_names.specs.contracts.types.UnknownPartialEq.TheImpl.{eq-value}
use Rattle.cedar_model.specs.Outcomes.{text_eq}
use Rattle.cedar_names.specs.EqualityLaws.{text_eq-decides, annotation_eq-decides}
use Rattle.cedar_names.proofs.Derived.{annotations_equal}
use Rattle.indexmap.specs.IndexSet.{insert_key}
use Rattle.cedar_unknowns.specs.Occurrences.{Asked, asked, asked_each, asked_eq, is_listed, noted}

-- the test is true exactly of one name with one annotation
pub asked_eq-decides : (a b : Asked) → Decides (asked_eq a b) (a ≡ b)
asked_eq-decides a b =
    let both : Decides (asked_eq a b) ((a.0 ≡ b.0) × (a.1 ≡ b.1)) = Decides-and _ _ (text_eq-decides a.0 b.0) (annotation_eq-decides a.1 b.1) in
    (λ h. let (names, annotations) = both.0 h in λ i. (names i, annotations i), λ e. both.1 (ap (λ (x : Asked). x.0) e, ap (λ (x : Asked). x.1) e))

-- `==` of unknowns
unknowns_equal : (a b : unknowns.Unknown) → eq-value.it a b ≡ asked_eq (asked a) (asked b)
unknowns_equal a b =
    ap (λ x. text_eq (rc_str_bytes a.name) (rc_str_bytes b.name) && x)
    (annotations_equal a.type_annotation b.type_annotation)

-- an unknown is in a set where it is among those that the set lists
any_listed : (u : unknowns.Unknown) (us : List unknowns.Unknown) → list_any (eq-value.it u) us ≡ is_listed (asked u) (asked_each us)
unfolding is_listed
any_listed u [] = refl
any_listed u (v ∷ us) = λ i. unknowns_equal u v i || any_listed u us i

behind : (us : List unknowns.Unknown) (u : unknowns.Unknown) → asked_each (us ++ u ∷ []) ≡ asked_each us ++ asked u ∷ []
behind [] u = refl
behind (v ∷ us) u = ap (λ (more : List Asked). asked v ∷ more) (behind us u)

inserted-if : (b : Bool) (us : List unknowns.Unknown) (u : unknowns.Unknown) (a : Asked) → asked u ≡ a → asked_each (if b then us else us ++ u ∷ []) ≡ (if b then asked_each us else asked_each us ++ a ∷ [])
inserted-if true us u a e = refl
inserted-if false us u a e = behind us u ∙ ap (λ (x : Asked). asked_each us ++ x ∷ []) e

-- an unknown that is put into a set is noted
pub inserted : (us : List unknowns.Unknown) (u : unknowns.Unknown) (a : Asked) → asked u ≡ a → asked_each (insert_key eq-value.it us u) ≡ noted a (asked_each us)
inserted us u a e =
    inserted-if (list_any (eq-value.it u) us) us u a e ∙ ap (λ b. if b then asked_each us else asked_each us ++ a ∷ []) (any_listed u us ∙ ap (λ (x : Asked). is_listed x (asked_each us)) e)
