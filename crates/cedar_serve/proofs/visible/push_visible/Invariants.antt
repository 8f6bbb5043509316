use Rattle.std.proofs.Common.{◌≡◌, ◌++◌, string_bytes, List, ℕ}
use Rattle.cedar_serve.specs.Visible.{IsVisible}
use Rattle.cedar_serve.proofs.visible.push_visible.Given as goal

-- what is told of the rest goes behind what is told
abbrev pub invariant-characters : goal.invariant-characters
invariant-characters l =
    (rest : List ℕ) → IsVisible l.character-iterator.rest.now rest
    → (told : List ℕ) × IsVisible l.fn.text told
    × (string_bytes l.initial.output ++ told ≡ string_bytes l.output ++ rest)
