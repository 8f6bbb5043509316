-- Lists that are made one after another.
use Rattle.std.proofs.Common.{◌≡◌, Bool, ◌||◌, ◌&&◌, List, [], ◌∷◌, ◌++◌, map, refl, sym, ap, ◌∙◌, append_assoc}
use Rattle.std.proofs.lemmas.List.{map-append}
use Rattle.std.specs.List.{AllZip, list_any, list_all}
use Rattle.cedar_model.specs.Terms.{Text}
use Rattle.cedar_model.specs.Settings.{ContextPart}
use Rattle.cedar_names.specs.declared.names.EntityUID.{EntityUID}
use Rattle.cedar_names.specs.Names.{uid_name}
use Rattle.cedar_requests.specs.Contexts.{context_keys}
use Rattle.cedar_reasons.specs.declared.facts.Fact.{Fact}
use Rattle.cedar_reasons.specs.Facts.{KnownFact, fact_view, facts_view, of_context, of_context_value, context_facts}

pub append_nil : {A : Type 0} (xs : List A) → xs ++ [] ≡ xs
append_nil [] = refl
append_nil (x ∷ xs) = ap (λ ys. x ∷ ys) (append_nil xs)

-- the next is put behind those that are made
pub put_behind : {A : Type 0} (made more : List A) (x : A) (left all : List A) → more ≡ made ++ x ∷ [] → made ++ x ∷ left ≡ all → more ++ left ≡ all
put_behind made more x left all e h = ap (λ ys. ys ++ left) e ∙ append_assoc made (x ∷ []) left ∙ h

-- so are several
pub put_each_behind : {A : Type 0} (made more xs left all : List A) → more ≡ made ++ xs → made ++ (xs ++ left) ≡ all → more ++ left ≡ all
put_each_behind made more xs left all e h = ap (λ ys. ys ++ left) e ∙ append_assoc made xs left ∙ h

-- none is left
pub all_made : {A : Type 0} (made left all : List A) → left ≡ [] → made ++ left ≡ all → made ≡ all
all_made made left all e h = sym (append_nil made) ∙ ap (λ ys. made ++ ys) (sym e) ∙ h

pub any_map : {A B : Type 0} (f : A → B) (test : B → Bool) (xs : List A) → list_any (λ x. test (f x)) xs ≡ list_any test (map f xs)
any_map f test [] = refl
any_map f test (x ∷ xs) = ap (λ b. test (f x) || b) (any_map f test xs)

pub all_map : {A B : Type 0} (f : A → B) (test : B → Bool) (xs : List A) → list_all (λ x. test (f x)) xs ≡ list_all test (map f xs)
all_map f test [] = refl
all_map f test (x ∷ xs) = ap (λ b. test (f x) && b) (all_map f test xs)

-- the names of copies are those of the uids
pub names_copied : (Copies : EntityUID → EntityUID → Type 0) (us vs : List EntityUID) → AllZip Copies us vs
    → ((u v : EntityUID) → Copies u v → uid_name v ≡ uid_name u) → map uid_name vs ≡ map uid_name us
names_copied Copies [] [] h same = refl
names_copied Copies [] (v ∷ vs) h same = absurd h
names_copied Copies (u ∷ us) [] h same = absurd h
names_copied Copies (u ∷ us) (v ∷ vs) h same = λ i. same u v h.0 i ∷ names_copied Copies us vs h.1 same i

-- one fact more
pub fact_more : (xs ys : List Fact) (x : Fact) (f : KnownFact) → ys ≡ xs ++ x ∷ [] → fact_view x ≡ f → facts_view ys ≡ facts_view xs ++ f ∷ []
fact_more xs ys x f is same =
    ap facts_view is ∙ map-append fact_view xs (x ∷ []) ∙ ap (λ (g : KnownFact). facts_view xs ++ g ∷ []) same

-- those of a context behind others
pub context_added : (before added after : List KnownFact) (ks : List Text) (p : ContextPart) → added ≡ before ++ of_context ∷ []
    → after ≡ added ++ map of_context_value ks → context_keys p ≡ ks → after ≡ before ++ context_facts p
context_added before added after ks p a b k =
    b ∙ ap (λ fs. fs ++ map of_context_value ks) a ∙ append_assoc before (of_context ∷ []) (map of_context_value ks)
    ∙ ap (λ js. before ++ (of_context ∷ map of_context_value js)) (sym k)
