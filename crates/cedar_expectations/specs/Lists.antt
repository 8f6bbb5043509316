-- Lists of texts, each against another.
use Rattle.std.specs.Prelude.{Bool, true, false, ◌&&◌, ◌||◌, not, cond, List, [], ◌∷◌, flat_map}
use Rattle.cedar_model.specs.Terms.{Text}
use Rattle.cedar_model.specs.Outcomes.{has_text}

-- the text, unless it is one of these
abbrev pub unless_in : List Text → Text → List Text
unless_in others t = cond (has_text t others) [] (t ∷ [])

-- the texts of the first list that the second doesn't have
abbrev pub only_in : List Text → List Text → List Text
only_in some others = flat_map (unless_in others) some

-- the first list has a text that the second doesn't have
unfoldable pub has_more : List Text → List Text → Bool
has_more [] others = false
has_more (t ∷ ts) others = not (has_text t others) || has_more ts others

-- each list has all texts of the other
abbrev pub have_same : List Text → List Text → Bool
have_same some others = not (has_more some others) && not (has_more others some)
