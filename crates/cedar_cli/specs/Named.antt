-- How policies are named, and which of them stand in an answer.
use Rattle.std.specs.Prelude.{◌≡◌, ◌++◌, ◌||◌, Bool, true, false, cond, List, [], ◌∷◌, map, flat_map}
use Rattle.std.specs.Prelude.{Option, Some, None, codes}
use Rattle.std.specs.Map.{lookup}
use Rattle.cedar_model.specs.Terms.{Text}
use Rattle.cedar_model.specs.Failures.{Failure}
use Rattle.cedar_model.specs.Outcomes.{text_eq, has_text}
use Rattle.cedar_model.specs.Policies.{permit, forbid}
use Rattle.cedar_model.specs.Responses.{Row}
use Rattle.cedar_model.specs.Reports.{ids, residuals, must_determine, may_determine}
use Rattle.cedar_layers.specs.Policies.{PolicyView}
use Rattle.cedar_cli.specs.Visible.{IsVisible}

-- what a policy's annotation `id` says, if it has one
abbrev pub annotated : PolicyView → Option Text
annotated p = lookup (text_eq (codes "id")) p.annotations

abbrev pub annotation_or_id : Option Text → PolicyView → Text
annotation_or_id None p = p.id
annotation_or_id (Some name) p = name

-- how a policy is called: by that annotation or, where it has none, by its id
abbrev pub policy_name : PolicyView → Text
policy_name p = annotation_or_id (annotated p) p

-- ---- the policies of an answer, in the order of the set

-- the id of the policy, where its id is one of these
abbrev pub id_where : (Text → Bool) → PolicyView → List Text
id_where is p = cond (is p.id) (p.id ∷ []) []

abbrev pub ids_where : (Text → Bool) → List PolicyView → List Text
ids_where is = flat_map (id_where is)

-- the policies whose errors are these
abbrev pub erred_ids : List (Text × Failure) → List Text
erred_ids = map (λ e. e.0)

-- one of these, or the id of an error
abbrev pub is_named : (Text → Bool) → List (Text × Failure) → Text → Bool
is_named is errors t = has_text t (erred_ids errors) || is t

-- of a partial response: the id of a policy that may or must determine the decision, or of which something is left
abbrev pub stands_in : List Row → Text → Bool
stands_in rows t =
    has_text t (ids (residuals permit rows ++ residuals forbid rows))
    || (has_text t (ids (must_determine rows)) || has_text t (ids (may_determine rows)))

-- one of these, or of an error
abbrev pub is_told : List Row → List (Text × Failure) → Text → Bool
is_told rows errors = is_named (stands_in rows) errors

-- ---- lines

-- two blanks, the name as texts are told, and the end of the line
pub record IsNameLine (p : PolicyView) (line : Text) : Type 0 where
  pub told : Text
  pub visible : IsVisible (policy_name p) told
  pub is_line : line ≡ codes "  " ++ (told ++ codes "\n")

-- the line of the policy, where its id is one of these
abbrev pub IsLineWhere : Bool → PolicyView → Text → Type 0
IsLineWhere false p line = line ≡ []
IsLineWhere true p line = IsNameLine p line

-- those of all these policies
pub data AreNameLines (is : Text → Bool) : List PolicyView → Text → Type 0 where
  no_names : AreNameLines is [] []
  name_behind : {ps : List PolicyView} {lines : Text} → AreNameLines is ps lines → (p : PolicyView) (line : Text)
      → IsLineWhere (is p.id) p line → AreNameLines is (ps ++ p ∷ []) (lines ++ line)
