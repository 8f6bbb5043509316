-- Texts of entities, one after another.
use Rattle.std.proofs.Common.{◌≡◌, ◌∙◌, ◌+◌, ◌<◌, ◌++◌, ◌∷◌, [], List, ℕ, Bool, true, false, Option, Some, None, cond, map, drop, get_or, length, ap, sym, refl, append_assoc, ◌||◌, option_copied}
use Rattle.std.proofs.lemmas.List.{drop_more}
use Rattle.cedar_model.specs.Terms.{Text, EntityName}
use Rattle.cedar_names.specs.declared.names.EntityUID.{EntityUID}
use Rattle.cedar_names.specs.Names.{uid_name}
use Rattle.cedar_search.specs.declared.searches.Part.{Part}
use Rattle.cedar_service.specs.Searched.{found_text}

module _ (part : Part) where
  abbrev pub told : List EntityUID → List Text
  told us = map (found_text part) (map uid_name us)

  pub text_left : (us : List EntityUID) (i : ℕ) (u : EntityUID) (done after : List Text) → i < length us
      → u ≡ get_or us i u → after ≡ done ++ found_text part (uid_name u) ∷ []
      → done ++ told (drop i us) ≡ told us → after ++ told (drop (i + 1) us) ≡ told us
  text_left us i u done after h is more so =
      let left : drop i us ≡ u ∷ drop (i + 1) us =
      drop_more us i u h ∙ ap (λ (v : EntityUID). v ∷ drop (i + 1) us) (sym is) in
      ap (λ (ts : List Text). ts ++ told (drop (i + 1) us)) more
      ∙ append_assoc done (found_text part (uid_name u) ∷ []) (told (drop (i + 1) us))
      ∙ ap (λ (vs : List EntityUID). done ++ told vs) (sym left) ∙ so
