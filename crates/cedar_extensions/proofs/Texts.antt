-- Texts among others.
use Rattle.std.proofs.Common.{◌≡◌, refl, sym, ap, ◌∙◌, Bool, ◌||◌, List, [], ◌∷◌, ◌++◌, map}
use Rattle.std.proofs.lemmas.List.{map-append}
use Rattle.std.specs.List.{flat_map}
use Rattle.std.proofs.Math.Bool.{or_assoc}
use Rattle.cedar_model.specs.Terms.{Text}
use Rattle.cedar_model.specs.Outcomes.{text_eq, has_text}
use Rattle.cedar_names.specs.declared.names.Name.{Name}
use Rattle.cedar_names.specs.Names.{name_text}

pub has_text-append : (t : Text) (us vs : List Text) → has_text t (us ++ vs) ≡ (has_text t us || has_text t vs)
unfolding has_text
has_text-append t [] vs = refl
has_text-append t (u ∷ us) vs = ap (λ (b : Bool). text_eq t u || b) (has_text-append t us vs)
    ∙ (sym (or_assoc (text_eq t u) (has_text t us) (has_text t vs)))

-- a text is among the names of some parts where it is among those of the first, or of the others
pub has_text-parts : {E : Type 0} (t : Text) (names : E → List Name) (all : List E) (e : E) (rest : List E) (b : Bool)
    → all ≡ e ∷ rest → has_text t (map name_text (names e)) ≡ b
    → has_text t (map name_text (flat_map names all)) ≡ (b || has_text t (map name_text (flat_map names rest)))
has_text-parts {E} t names all e rest b is h =
    ap (λ (es : List E). has_text t (map name_text (flat_map names es))) is
    ∙ ap (has_text t) (map-append name_text (names e) (flat_map names rest))
    ∙ has_text-append t (map name_text (names e)) (map name_text (flat_map names rest))
    ∙ ap (λ (c : Bool). c || has_text t (map name_text (flat_map names rest))) h
