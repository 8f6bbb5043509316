-- Which pattern a text says.
use Rattle.std.specs.Prelude.{ℕ, ◌==◌, Bool, true, false, cond, List, [], ◌∷◌}
use Rattle.cedar_model.specs.Terms.{PatternPart, character, wildcard}

-- the parts that these characters say, where a `\` stands before them or not: a character behind `\` (92) stands for itself,
-- and `*` (42) for any run of characters
abbrev pub pattern_behind : Bool → List ℕ → List PatternPart
pattern_behind escaped [] = []
pattern_behind true (c ∷ cs) = character c ∷ pattern_behind false cs
pattern_behind false (c ∷ cs) =
    cond (c == 92) (pattern_behind true cs) (cond (c == 42) wildcard (character c) ∷ pattern_behind false cs)

abbrev pub pattern_said : List ℕ → List PatternPart
pattern_said cs = pattern_behind false cs
