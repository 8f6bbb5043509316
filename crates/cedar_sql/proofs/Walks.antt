-- How the walks over the parts of a pattern go.
use Rattle.std.specs.Prelude.{option_map}
use Rattle.std.proofs.Common.{◌≡◌, ◌∙◌, ℕ, Bool, true, false, List, [], ◌∷◌, ◌++◌, Option, Some, None, refl, ap}
use Rattle.cedar_model.specs.Terms.{PatternPart, character, wildcard}
use Rattle.cedar_sql.specs.Patterns.{are_wildcards, is_front, characters, next_character, next_of_part, with_first, behind}

-- what is asked of the rest, once there was a wildcard
abbrev pub front_from : Bool → List PatternPart → Bool
front_from true ps = are_wildcards ps
front_from false ps = is_front ps

-- what the last part leaves: its next character behind those before it; else what is behind them
abbrev pub behind_or : Option ℕ → List PatternPart → Option (List ℕ)
behind_or None ps = behind (characters ps)
behind_or (Some d) ps = Some (characters ps ++ (d ∷ []))

one_character : (o : Option ℕ) (c : ℕ) → next_character c ≡ o → behind (c ∷ []) ≡ behind_or o []
one_character None c is = ap (option_map (λ d. d ∷ [])) is
one_character (Some d) c is = ap (option_map (λ d. d ∷ [])) is

behind_more : (o : Option ℕ) (c : ℕ) (ps : List PatternPart) → with_first c (behind_or o ps) ≡ behind_or o (character c ∷ ps)
behind_more None c ps = refl
behind_more (Some d) c ps = refl

pub behind_last : (p : PatternPart) (ps : List PatternPart) → behind (characters (ps ++ (p ∷ []))) ≡ behind_or (next_of_part p) ps
behind_last (character c) [] = one_character (next_character c) c refl
behind_last wildcard [] = refl
behind_last p (character c ∷ ps) = ap (with_first c) (behind_last p ps) ∙ behind_more (next_of_part p) c ps
behind_last p (wildcard ∷ ps) = behind_last p ps ∙ behind_skips (next_of_part p) ps
  where
    behind_skips : (o : Option ℕ) (ps : List PatternPart) → behind_or o ps ≡ behind_or o (wildcard ∷ ps)
    behind_skips None ps = refl
    behind_skips (Some d) ps = refl
