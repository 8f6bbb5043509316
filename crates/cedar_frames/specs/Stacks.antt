-- What is taken off a stack.
use Rattle.std.specs.Prelude.{◌≡◌, List, [], ◌∷◌, ◌++◌, Option, MatchOption}

-- the last frame, if there is one
abbrev pub IsPopped : {F : Type 0} → List F → List F → Option F → Type 0
IsPopped old new o = MatchOption o (old ≡ []) (λ f. old ≡ new ++ f ∷ [])
