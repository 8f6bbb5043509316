-- How a pattern and a text begin: with a wildcard, with the same character, so that they differ, or not at all.
use Rattle.std.specs.Prelude.{◌≡◌, ℕ, false, List, [], ◌∷◌, map}
use Rattle.std.specs.Str.{chars, IsUtf8}
use Rattle.cedar_model.specs.Terms.{PatternPart, character, wildcard}
use Rattle.cedar_names.specs.Leaves.{part_view}
use Rattle.cedar_model.specs.Outcomes.{matches}
use Rattle.cedar_names.specs.declared.pattern.matching.Look.{Look}
use Rattle.cedar_names.specs.declared.pattern.matching.Look.TheVariants.{Ends, Wildcard, Same, Differs}

abbrev pub LooksAt : List PatternPart → List ℕ → Look → Type 0
LooksAt ps cs Ends = (ps ≡ []) × (cs ≡ [])
LooksAt ps cs (Wildcard more) = ps ≡ wildcard ∷ map part_view more.now
LooksAt ps cs (Same more rest) = ((c : ℕ) × ((ps ≡ character c ∷ map part_view more.now) × (cs ≡ c ∷ chars rest.now))) × IsUtf8 rest.now
LooksAt ps cs Differs = matches ps cs ≡ false
